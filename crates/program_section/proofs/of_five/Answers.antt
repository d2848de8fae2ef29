-- `of_five` meets its contract: an arm has all words of its key, and the last one keys that no word has.
use mathlib.Core.Path.{refl, sym, ◌∙◌}
use mathlib.Core.List.{List, [], ◌∷◌}
use Prim.Native.Nat.{ℕ}
use lib.Dec.{ltb}
use Rattle.model.specs.Bytes.{keep}
use Rattle.program_section.specs.Words.{word_table, answering, reading, second, word_number, by_key, unlisted, all_listed}
use borrow.Author.Tests.{lt-ltb}
use borrow.Author.Rules.{rules}
use Rattle.program_section.proofs.of_five.Goals as goal

-- the keys of the arms, from the last on
abbrev keys : List ℕ
keys = 0x056C73 ∷ 0x056674 ∷ 0x056236 ∷ 0x056234 ∷ 0x04736B ∷ 0x046972 ∷ 0x037870 ∷ 0x037362 ∷ 0x036C6D ∷ 0x036476 ∷ 0x027470 ∷ []

pub returns-in-160880 : goal.returns-in-160880
unfolding word_table answering reading second word_number keep
returns-in-160880 c = c.named.ensures ∙ sym (by_key _ 0x027470 (sym c.requires.0 ∙ c.in-160880.is))

pub returns-in-222326 : goal.returns-in-222326
unfolding word_table answering reading second word_number keep
returns-in-222326 c = c.named-in-222326.ensures ∙ sym (by_key _ 0x036476 (sym c.requires.0 ∙ c.in-222326.is))

pub returns-in-224365 : goal.returns-in-224365
unfolding word_table answering reading second word_number keep
returns-in-224365 c = c.named-in-224365.ensures ∙ sym (by_key _ 0x036C6D (sym c.requires.0 ∙ c.in-224365.is))

pub returns-in-226146 : goal.returns-in-226146
unfolding word_table answering reading second word_number keep
returns-in-226146 c = c.named-in-226146.ensures ∙ sym (by_key _ 0x037362 (sym c.requires.0 ∙ c.in-226146.is))

pub returns-in-227440 : goal.returns-in-227440
unfolding word_table answering reading second word_number keep
returns-in-227440 c = c.named-in-227440.ensures ∙ sym (by_key _ 0x037870 (sym c.requires.0 ∙ c.in-227440.is))

pub returns-in-289138 : goal.returns-in-289138
unfolding word_table answering reading second word_number keep
returns-in-289138 c = c.named-in-289138.ensures ∙ sym (by_key _ 0x046972 (sym c.requires.0 ∙ c.in-289138.is))

pub returns-in-291691 : goal.returns-in-291691
unfolding word_table answering reading second word_number keep
returns-in-291691 c = c.named-in-291691.ensures ∙ sym (by_key _ 0x04736B (sym c.requires.0 ∙ c.in-291691.is))

pub returns-in-352820 : goal.returns-in-352820
unfolding word_table answering reading second word_number keep
returns-in-352820 c = c.named-in-352820.ensures ∙ sym (by_key _ 0x056234 (sym c.requires.0 ∙ c.in-352820.is))

pub returns-in-352822 : goal.returns-in-352822
unfolding word_table answering reading second word_number keep
returns-in-352822 c = c.named-in-352822.ensures ∙ sym (by_key _ 0x056236 (sym c.requires.0 ∙ c.in-352822.is))

pub returns-in-353908 : goal.returns-in-353908
unfolding word_table answering reading second word_number keep
returns-in-353908 c = c.named-in-353908.ensures ∙ sym (by_key _ 0x056674 (sym c.requires.0 ∙ c.in-353908.is))

pub returns-in-355443 : goal.returns-in-355443
unfolding word_table answering reading second word_number keep
returns-in-355443 c = c.named-in-355443.ensures ∙ sym (by_key _ 0x056C73 (sym c.requires.0 ∙ c.in-355443.is))

pub returns-in_default : goal.returns-in_default
unfolding word_table answering reading second all_listed
returns-in_default c = sym (unlisted _ (λ x. ltb x 0x060000) keys _ (sym c.requires.0) (lt-ltb _ _ c.requires.1) (search rules) refl)
