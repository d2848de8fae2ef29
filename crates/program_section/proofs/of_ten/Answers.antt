-- `of_ten` meets its contract: an arm has all words of its key, and the last one keys that no word has.
use mathlib.Core.Path.{refl, sym, ◌∙◌}
use mathlib.Core.Bool.{◌&&◌}
use mathlib.Core.List.{List, [], ◌∷◌}
use Prim.Native.Nat.{ℕ}
use lib.Dec.{leb, ltb}
use Rattle.model.specs.Bytes.{keep}
use Rattle.program_section.specs.Words.{word_table, answering, reading, second, word_number, by_key, unlisted, all_listed}
use borrow.Author.Tests.{le-leb, lt-ltb}
use borrow.Author.Rules.{rules}
use Rattle.program_section.proofs.of_ten.Goals as goal

-- the keys of the arms, from the last on
abbrev keys : List ℕ
keys = 0x0A7474 ∷ 0x0A7374 ∷ 0x0A7074 ∷ 0x0A7036 ∷ 0x0A7034 ∷ 0x0A6C70 ∷ 0x0A6C32 ∷ 0x0A6774 ∷ 0x0A6372 ∷ 0x0A6362 ∷ 0x097873 ∷ 0x097565 ∷ 0x097370 ∷ 0x096B65 ∷ []

pub returns-in-617317 : goal.returns-in-617317
unfolding word_table answering reading second word_number keep
returns-in-617317 c = c.named.ensures ∙ sym (by_key _ 0x096B65 (sym c.requires.0 ∙ c.in-617317.is))

pub returns-in-619376 : goal.returns-in-619376
unfolding word_table answering reading second word_number keep
returns-in-619376 c = c.named-in-619376.ensures ∙ sym (by_key _ 0x097370 (sym c.requires.0 ∙ c.in-619376.is))

pub returns-in-619877 : goal.returns-in-619877
unfolding word_table answering reading second word_number keep
returns-in-619877 c = c.named-in-619877.ensures ∙ sym (by_key _ 0x097565 (sym c.requires.0 ∙ c.in-619877.is))

pub returns-in-620659 : goal.returns-in-620659
unfolding word_table answering reading second word_number keep
returns-in-620659 c = c.named-in-620659.ensures ∙ sym (by_key _ 0x097873 (sym c.requires.0 ∙ c.in-620659.is))

pub returns-in-680802 : goal.returns-in-680802
unfolding word_table answering reading second word_number keep
returns-in-680802 c = c.named-in-680802.ensures ∙ sym (by_key _ 0x0A6362 (sym c.requires.0 ∙ c.in-680802.is))

pub returns-in-680818 : goal.returns-in-680818
unfolding word_table answering reading second word_number keep
returns-in-680818 c = c.named-in-680818.ensures ∙ sym (by_key _ 0x0A6372 (sym c.requires.0 ∙ c.in-680818.is))

pub returns-in-681844 : goal.returns-in-681844
unfolding word_table answering reading second word_number keep
returns-in-681844 c = c.named-in-681844.ensures ∙ sym (by_key _ 0x0A6774 (sym c.requires.0 ∙ c.in-681844.is))

pub returns-in-683058 : goal.returns-in-683058
unfolding word_table answering reading second word_number keep
returns-in-683058 c = c.named-in-683058.ensures ∙ sym (by_key _ 0x0A6C32 (sym c.requires.0 ∙ c.in-683058.is))

pub returns-in-683120 : goal.returns-in-683120
unfolding word_table answering reading second word_number keep
returns-in-683120 c = c.named-in-683120.ensures ∙ sym (by_key _ 0x0A6C70 (sym c.requires.0 ∙ c.in-683120.is))

pub returns-in-684084 : goal.returns-in-684084
unfolding word_table answering reading second word_number keep
returns-in-684084 c = c.named-in-684084.ensures ∙ sym (by_key _ 0x0A7034 (sym c.requires.0 ∙ c.in-684084.is))

pub returns-in-684086 : goal.returns-in-684086
unfolding word_table answering reading second word_number keep
returns-in-684086 c = c.named-in-684086.ensures ∙ sym (by_key _ 0x0A7036 (sym c.requires.0 ∙ c.in-684086.is))

pub returns-in-684148 : goal.returns-in-684148
unfolding word_table answering reading second word_number keep
returns-in-684148 c = c.named-in-684148.ensures ∙ sym (by_key _ 0x0A7074 (sym c.requires.0 ∙ c.in-684148.is))

pub returns-in-684916 : goal.returns-in-684916
unfolding word_table answering reading second word_number keep
returns-in-684916 c = c.named-in-684916.ensures ∙ sym (by_key _ 0x0A7374 (sym c.requires.0 ∙ c.in-684916.is))

pub returns-in-685172 : goal.returns-in-685172
unfolding word_table answering reading second word_number keep
returns-in-685172 c = c.named-in-685172.ensures ∙ sym (by_key _ 0x0A7474 (sym c.requires.0 ∙ c.in-685172.is))

pub returns-in_default : goal.returns-in_default
unfolding word_table answering reading second all_listed
returns-in_default c = sym (unlisted _ (λ x. leb 0x090000 x && ltb x 0x0B0000) keys _ (sym c.requires.0) (rw (le-leb _ _ c.requires.1, lt-ltb _ _ c.requires.2)) (search rules) refl)
