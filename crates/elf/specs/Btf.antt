-- '3. A section is named `.BTF`', by a walk over the sections.
use Rattle.std.specs.Prelude.{◌≡◌, Bool, cond, ◌||◌, ℕ, ◌+◌, ◌<◌, ◌≤◌, drop, None, Some}
use Rattle.std.proofs.Math.Path.{refl, ap}
use Rattle.std.proofs.Common.{◌∙◌}
use Rattle.std.proofs.Math.Bool.{true, false}
use mathlib.Core.List.{List, ◌∷◌}
use Rattle.lists.specs.Tab.{tab}
use Rattle.lists.specs.Walk.{drop-tab-next, drop-tab-none}
use Rattle.model.specs.Bytes.{ascii, same, or_else, first_in, find, is_some}
use Rattle.model.specs.Object.{Section}
use Rattle.model.specs.Deposit.{has_btf}
use Rattle.object_view.specs.declared.View.{View}
use Rattle.object.specs.View.{section_in, object_in}

abbrev pub named_btf : Section → Bool
named_btf s = same (ascii ".BTF") s.name

module _ (d t : List ℕ) (v : View) where
  -- of the sections from number i on
  unfoldable pub btf_from : ℕ → Bool
  btf_from i = is_some (find named_btf (drop i (tab (section_in d t v) v.sections)))

  found-next : (s : Section) (ss : List Section) → is_some (find named_btf (s ∷ ss)) ≡ (named_btf s || is_some (find named_btf ss))
  unfolding find first_in
  found-next s ss = go (named_btf s)
    where
      go : (b : Bool) → is_some (or_else (cond b (Some s) None) (find named_btf ss)) ≡ (b || is_some (find named_btf ss))
      go true = refl
      go false = refl

  pub btf-next : (i : ℕ) → i < v.sections → btf_from i ≡ (named_btf (section_in d t v i) || btf_from (i + 1))
  unfolding btf_from
  btf-next i l =
      ap (λ (ss : List Section). is_some (find named_btf ss)) (drop-tab-next (section_in d t v) v.sections i l)
      ∙ found-next (section_in d t v i) (drop (i + 1) (tab (section_in d t v) v.sections))

  pub btf-none : (i : ℕ) → v.sections ≤ i → btf_from i ≡ false
  unfolding btf_from find first_in
  btf-none i l = ap (λ (ss : List Section). is_some (find named_btf ss)) (drop-tab-none (section_in d t v) v.sections i l)

  pub btf-all : has_btf (object_in d t v) ≡ btf_from 0
  unfolding has_btf object_in btf_from
  btf-all = refl
