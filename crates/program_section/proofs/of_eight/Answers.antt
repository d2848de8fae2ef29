-- `of_eight` meets its contract: an arm has all words of its key, and the last one keys that no word has.
use mathlib.Core.Path.{refl, sym, ◌∙◌}
use mathlib.Core.Bool.{◌&&◌}
use mathlib.Core.List.{List, [], ◌∷◌}
use Prim.Native.Nat.{ℕ}
use lib.Dec.{leb, ltb}
use Rattle.model.specs.Bytes.{keep}
use Rattle.program_section.specs.Words.{word_table, answering, reading, second, word_number, by_key, unlisted, all_listed}
use borrow.Author.Tests.{le-leb, lt-ltb}
use borrow.Author.Rules.{rules}
use Rattle.program_section.proofs.of_eight.Goals as goal

-- the keys of the arms, from the last on
abbrev keys : List ℕ
keys = 0x087573 ∷ 0x087336 ∷ 0x087334 ∷ 0x087236 ∷ 0x087234 ∷ 0x086673 ∷ 0x086665 ∷ 0x086336 ∷ 0x086334 ∷ 0x077373 ∷ 0x076D65 ∷ 0x076973 ∷ 0x076673 ∷ []

pub returns-in-484979 : goal.returns-in-484979
unfolding word_table answering reading second word_number keep
returns-in-484979 c = c.named.ensures ∙ sym (by_key _ 0x076673 (sym c.requires.0 ∙ c.in-484979.is))

pub returns-in-485747 : goal.returns-in-485747
unfolding word_table answering reading second word_number keep
returns-in-485747 c = c.named-in-485747.ensures ∙ sym (by_key _ 0x076973 (sym c.requires.0 ∙ c.in-485747.is))

pub returns-in-486757 : goal.returns-in-486757
unfolding word_table answering reading second word_number keep
returns-in-486757 c = c.named-in-486757.ensures ∙ sym (by_key _ 0x076D65 (sym c.requires.0 ∙ c.in-486757.is))

pub returns-in-488307 : goal.returns-in-488307
unfolding word_table answering reading second word_number keep
returns-in-488307 c = c.named-in-488307.ensures ∙ sym (by_key _ 0x077373 (sym c.requires.0 ∙ c.in-488307.is))

pub returns-in-549684 : goal.returns-in-549684
unfolding word_table answering reading second word_number keep
returns-in-549684 c = c.named-in-549684.ensures ∙ sym (by_key _ 0x086334 (sym c.requires.0 ∙ c.in-549684.is))

pub returns-in-549686 : goal.returns-in-549686
unfolding word_table answering reading second word_number keep
returns-in-549686 c = c.named-in-549686.ensures ∙ sym (by_key _ 0x086336 (sym c.requires.0 ∙ c.in-549686.is))

pub returns-in-550501 : goal.returns-in-550501
unfolding word_table answering reading second word_number keep
returns-in-550501 c = c.named-in-550501.ensures ∙ sym (by_key _ 0x086665 (sym c.requires.0 ∙ c.in-550501.is))

pub returns-in-550515 : goal.returns-in-550515
unfolding word_table answering reading second word_number keep
returns-in-550515 c = c.named-in-550515.ensures ∙ sym (by_key _ 0x086673 (sym c.requires.0 ∙ c.in-550515.is))

pub returns-in-553524 : goal.returns-in-553524
unfolding word_table answering reading second word_number keep
returns-in-553524 c = c.named-in-553524.ensures ∙ sym (by_key _ 0x087234 (sym c.requires.0 ∙ c.in-553524.is))

pub returns-in-553526 : goal.returns-in-553526
unfolding word_table answering reading second word_number keep
returns-in-553526 c = c.named-in-553526.ensures ∙ sym (by_key _ 0x087236 (sym c.requires.0 ∙ c.in-553526.is))

pub returns-in-553780 : goal.returns-in-553780
unfolding word_table answering reading second word_number keep
returns-in-553780 c = c.named-in-553780.ensures ∙ sym (by_key _ 0x087334 (sym c.requires.0 ∙ c.in-553780.is))

pub returns-in-553782 : goal.returns-in-553782
unfolding word_table answering reading second word_number keep
returns-in-553782 c = c.named-in-553782.ensures ∙ sym (by_key _ 0x087336 (sym c.requires.0 ∙ c.in-553782.is))

pub returns-in-554355 : goal.returns-in-554355
unfolding word_table answering reading second word_number keep
returns-in-554355 c = c.named-in-554355.ensures ∙ sym (by_key _ 0x087573 (sym c.requires.0 ∙ c.in-554355.is))

pub returns-in_default : goal.returns-in_default
unfolding word_table answering reading second all_listed
returns-in_default c = sym (unlisted _ (λ x. leb 0x070000 x && ltb x 0x090000) keys _ (sym c.requires.0) (rw (le-leb _ _ c.requires.1, lt-ltb _ _ c.requires.2)) (search rules) refl)
