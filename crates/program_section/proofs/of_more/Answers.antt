-- `of_more` meets its contract: an arm has all words of its key, and the last one keys that no word has.
use mathlib.Core.Path.{refl, sym, ◌∙◌}
use mathlib.Core.List.{List, [], ◌∷◌}
use Prim.Native.Nat.{ℕ}
use lib.Dec.{leb}
use Rattle.model.specs.Bytes.{keep}
use Rattle.program_section.specs.Words.{word_table, answering, reading, second, word_number, by_key, unlisted, all_listed}
use borrow.Author.Tests.{le-leb}
use borrow.Author.Rules.{rules}
use Rattle.program_section.proofs.of_more.Goals as goal

-- the keys of the arms, from the last on
abbrev keys : List ℕ
keys = 0x117573 ∷ 0x0F7569 ∷ 0x0E7573 ∷ 0x0E7374 ∷ 0x0E7274 ∷ 0x0E6672 ∷ 0x0D7372 ∷ 0x0C7569 ∷ 0x0C7374 ∷ 0x0C7365 ∷ 0x0C6736 ∷ 0x0C6734 ∷ 0x0B7573 ∷ 0x0B7365 ∷ []

pub returns-in-750437 : goal.returns-in-750437
unfolding word_table answering reading second word_number keep
returns-in-750437 c = c.named.ensures ∙ sym (by_key _ 0x0B7365 (sym c.requires.0 ∙ c.in-750437.is))

pub returns-in-750963 : goal.returns-in-750963
unfolding word_table answering reading second word_number keep
returns-in-750963 c = c.named-in-750963.ensures ∙ sym (by_key _ 0x0B7573 (sym c.requires.0 ∙ c.in-750963.is))

pub returns-in-812852 : goal.returns-in-812852
unfolding word_table answering reading second word_number keep
returns-in-812852 c =
    rw (c.named-in-812852-2.ensures, c.named-in-812852.ensures) (sym (by_key _ 0x0C6734 (sym c.requires.0 ∙ c.in-812852.is)))

pub returns-in-812854 : goal.returns-in-812854
unfolding word_table answering reading second word_number keep
returns-in-812854 c =
    rw (c.named-in-812854-2.ensures, c.named-in-812854.ensures) (sym (by_key _ 0x0C6736 (sym c.requires.0 ∙ c.in-812854.is)))

pub returns-in-815973 : goal.returns-in-815973
unfolding word_table answering reading second word_number keep
returns-in-815973 c = c.named-in-815973.ensures ∙ sym (by_key _ 0x0C7365 (sym c.requires.0 ∙ c.in-815973.is))

pub returns-in-815988 : goal.returns-in-815988
unfolding word_table answering reading second word_number keep
returns-in-815988 c = c.named-in-815988.ensures ∙ sym (by_key _ 0x0C7374 (sym c.requires.0 ∙ c.in-815988.is))

pub returns-in-816489 : goal.returns-in-816489
unfolding word_table answering reading second word_number keep
returns-in-816489 c = c.named-in-816489.ensures ∙ sym (by_key _ 0x0C7569 (sym c.requires.0 ∙ c.in-816489.is))

pub returns-in-881522 : goal.returns-in-881522
unfolding word_table answering reading second word_number keep
returns-in-881522 c = c.named-in-881522.ensures ∙ sym (by_key _ 0x0D7372 (sym c.requires.0 ∙ c.in-881522.is))

pub returns-in-943730 : goal.returns-in-943730
unfolding word_table answering reading second word_number keep
returns-in-943730 c = c.named-in-943730.ensures ∙ sym (by_key _ 0x0E6672 (sym c.requires.0 ∙ c.in-943730.is))

pub returns-in-946804 : goal.returns-in-946804
unfolding word_table answering reading second word_number keep
returns-in-946804 c = c.named-in-946804.ensures ∙ sym (by_key _ 0x0E7274 (sym c.requires.0 ∙ c.in-946804.is))

pub returns-in-947060 : goal.returns-in-947060
unfolding word_table answering reading second word_number keep
returns-in-947060 c = c.named-in-947060.ensures ∙ sym (by_key _ 0x0E7374 (sym c.requires.0 ∙ c.in-947060.is))

pub returns-in-947571 : goal.returns-in-947571
unfolding word_table answering reading second word_number keep
returns-in-947571 c = c.named-in-947571.ensures ∙ sym (by_key _ 0x0E7573 (sym c.requires.0 ∙ c.in-947571.is))

pub returns-in-1013097 : goal.returns-in-1013097
unfolding word_table answering reading second word_number keep
returns-in-1013097 c = c.named-in-1013097.ensures ∙ sym (by_key _ 0x0F7569 (sym c.requires.0 ∙ c.in-1013097.is))

pub returns-in-1144179 : goal.returns-in-1144179
unfolding word_table answering reading second word_number keep
returns-in-1144179 c = c.named-in-1144179.ensures ∙ sym (by_key _ 0x117573 (sym c.requires.0 ∙ c.in-1144179.is))

pub returns-in_default : goal.returns-in_default
unfolding word_table answering reading second all_listed
returns-in_default c = sym (unlisted _ (λ x. leb 0x0B0000 x) keys _ (sym c.requires.0) (le-leb _ _ c.requires.1) (search rules) refl)
