-- `of_six` meets its contract: an arm has all words of its key, and the last one keys that no word has.
use mathlib.Core.Path.{refl, sym, ◌∙◌}
use mathlib.Core.Bool.{◌&&◌}
use mathlib.Core.List.{List, [], ◌∷◌}
use Prim.Native.Nat.{ℕ}
use lib.Dec.{leb, ltb}
use Rattle.model.specs.Bytes.{keep}
use Rattle.program_section.specs.Words.{word_table, answering, reading, second, word_number, by_key, unlisted, all_listed}
use borrow.Author.Tests.{le-leb, lt-ltb}
use borrow.Author.Rules.{rules}
use Rattle.program_section.proofs.of_six.Goals as goal

-- the keys of the arms, from the last on
abbrev keys : List ℕ
keys = 0x067565 ∷ 0x067466 ∷ 0x067374 ∷ 0x06736C ∷ 0x067367 ∷ 0x067362 ∷ 0x067270 ∷ 0x066B65 ∷ 0x066973 ∷ 0x066679 ∷ 0x066573 ∷ 0x066470 ∷ 0x066370 ∷ []

pub returns-in-418672 : goal.returns-in-418672
unfolding word_table answering reading second word_number keep
returns-in-418672 c =
    rw (c.named-in-418672.ensures, c.named.ensures) (sym (by_key _ 0x066370 (sym c.requires.0 ∙ c.in-418672.is)))

pub returns-in-418928 : goal.returns-in-418928
unfolding word_table answering reading second word_number keep
returns-in-418928 c = c.named-in-418928.ensures ∙ sym (by_key _ 0x066470 (sym c.requires.0 ∙ c.in-418928.is))

pub returns-in-419187 : goal.returns-in-419187
unfolding word_table answering reading second word_number keep
returns-in-419187 c = c.named-in-419187.ensures ∙ sym (by_key _ 0x066573 (sym c.requires.0 ∙ c.in-419187.is))

pub returns-in-419449 : goal.returns-in-419449
unfolding word_table answering reading second word_number keep
returns-in-419449 c = c.named-in-419449.ensures ∙ sym (by_key _ 0x066679 (sym c.requires.0 ∙ c.in-419449.is))

pub returns-in-420211 : goal.returns-in-420211
unfolding word_table answering reading second word_number keep
returns-in-420211 c = c.named-in-420211.ensures ∙ sym (by_key _ 0x066973 (sym c.requires.0 ∙ c.in-420211.is))

pub returns-in-420709 : goal.returns-in-420709
unfolding word_table answering reading second word_number keep
returns-in-420709 c = c.named-in-420709.ensures ∙ sym (by_key _ 0x066B65 (sym c.requires.0 ∙ c.in-420709.is))

pub returns-in-422512 : goal.returns-in-422512
unfolding word_table answering reading second word_number keep
returns-in-422512 c = c.named-in-422512.ensures ∙ sym (by_key _ 0x067270 (sym c.requires.0 ∙ c.in-422512.is))

pub returns-in-422754 : goal.returns-in-422754
unfolding word_table answering reading second word_number keep
returns-in-422754 c = c.named-in-422754.ensures ∙ sym (by_key _ 0x067362 (sym c.requires.0 ∙ c.in-422754.is))

pub returns-in-422759 : goal.returns-in-422759
unfolding word_table answering reading second word_number keep
returns-in-422759 c = c.named-in-422759.ensures ∙ sym (by_key _ 0x067367 (sym c.requires.0 ∙ c.in-422759.is))

pub returns-in-422764 : goal.returns-in-422764
unfolding word_table answering reading second word_number keep
returns-in-422764 c = c.named-in-422764.ensures ∙ sym (by_key _ 0x06736C (sym c.requires.0 ∙ c.in-422764.is))

pub returns-in-422772 : goal.returns-in-422772
unfolding word_table answering reading second word_number keep
returns-in-422772 c = c.named-in-422772.ensures ∙ sym (by_key _ 0x067374 (sym c.requires.0 ∙ c.in-422772.is))

pub returns-in-423014 : goal.returns-in-423014
unfolding word_table answering reading second word_number keep
returns-in-423014 c = c.named-in-423014.ensures ∙ sym (by_key _ 0x067466 (sym c.requires.0 ∙ c.in-423014.is))

pub returns-in-423269 : goal.returns-in-423269
unfolding word_table answering reading second word_number keep
returns-in-423269 c = c.named-in-423269.ensures ∙ sym (by_key _ 0x067565 (sym c.requires.0 ∙ c.in-423269.is))

pub returns-in_default : goal.returns-in_default
unfolding word_table answering reading second all_listed
returns-in_default c = sym (unlisted _ (λ x. leb 0x060000 x && ltb x 0x070000) keys _ (sym c.requires.0) (rw (le-leb _ _ c.requires.1, lt-ltb _ _ c.requires.2)) (search rules) refl)
