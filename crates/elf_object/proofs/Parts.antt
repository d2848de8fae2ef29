-- An index made of its five parts, one after the other, holds what it should.
use Rattle.std.specs.Prelude.{◌≡◌}
use Rattle.std.proofs.Common.{sym, ◌∙◌, get_or-append-add}
use Rattle.std.proofs.Math.Path.{ap}
use mathlib.Core.List.{List, ◌++◌}
use Prim.Native.Nat.{ℕ, ◌+◌, ◌*◌, ◌<◌}
use native.Mathlib.Omega.{arith}
use Rattle.std.proofs.Math.ListN.{length, get_or, get_or-append}
use Rattle.lists.specs.Tab.{tab, length-tab, get_or-tab, rows}
use Rattle.model.specs.Elf.{file_of, string_at}
use Rattle.elf_header.specs.Headers.{headers_in}
use Rattle.elf_layout.specs.Layout.{elf_view}
use Rattle.elf_records.specs.Elf.{index_at}
use Rattle.elf_object.specs.Inside.{TablesRuled, section_strings}
use Rattle.elf_object.specs.Indexed.{file_places, Indexed}
use Rattle.elf_object.specs.Relocated.{view-relocations}
use Rattle.elf_object.specs.Named.{section-offset}
use Rattle.elf_object.specs.Parts.{section_name_length, symbol_name_length, first_places, place_counts}

-- behind n elements
behind : (a r : List ℕ) (n k : ℕ) → length a ≡ n → get_or (a ++ r) (n + k) 0 ≡ get_or r k 0
behind a r n k e = ap (λ (m : ℕ). get_or (a ++ r) (m + k) 0) (sym e) ∙ get_or-append-add a r k 0

in-front : (g : ℕ → ℕ) (r : List ℕ) (n k : ℕ) → k < n → get_or (tab g n ++ r) k 0 ≡ g k
in-front g r n k l = let m : k < length (tab g n) = rw length-tab l in get_or-append (tab g n) r 0 k m ∙ get_or-tab g n k 0 l

module _ (f : List ℕ) where
  pub indexed-parts : (rest t : List ℕ) → TablesRuled f (file_of f)
      → t ≡ tab (section_name_length f) (headers_in f).sections
      ++ (tab (symbol_name_length f) (elf_view f).symbols ++ (first_places f ++ (place_counts f ++ (rows (file_places f) (headers_in f).sections ++ rest))))
      → Indexed f t
  unfolding index_at
  indexed-parts rest t r e =
      let s : ℕ = (headers_in f).sections in
      let y : ℕ = (elf_view f).symbols in
      let places : List ℕ = rows (file_places f) s in
      let four : List ℕ = place_counts f ++ (places ++ rest) in
      let three : List ℕ = first_places f ++ four in
      let two : List ℕ = tab (symbol_name_length f) y ++ three in
      let at-two : (k : ℕ) → get_or t (s + k) 0 ≡ get_or two k 0 = λ k.
      ap (λ (u : List ℕ). get_or u (s + k) 0) e ∙ behind (tab (section_name_length f) s) two s k (length-tab (section_name_length f) s)
      in
      let at-three : (k : ℕ) → get_or t (s + (y + k)) 0 ≡ get_or three k 0 = λ k.
      at-two (y + k) ∙ behind (tab (symbol_name_length f) y) three y k (length-tab (symbol_name_length f) y)
      in
      let at-four : (k : ℕ) → get_or t (s + (y + (s + k))) 0 ≡ get_or four k 0 = λ k.
      at-three (s + k) ∙ behind (first_places f) four s k (length-tab _ s)
      in
      let at_five : (k : ℕ) → get_or t (s + (y + (s + (s + k)))) 0 ≡ get_or (places ++ rest) k 0 = λ k.
      at-four (s + k) ∙ behind (place_counts f) (places ++ rest) s k (length-tab _ s)
      in
      record {
        section-lengths = λ i l.
            ap (λ (u : List ℕ). get_or u i 0) e ∙ in-front (section_name_length f) two s i l ∙ ap (λ (o : ℕ). length (string_at (section_strings f) o)) (sym (section-offset f i));
        symbol-lengths = λ j l. at-two j ∙ in-front (symbol_name_length f) three y j l;
        firsts = λ i l.
            let q : s + y + i ≡ s + (y + i) = omega arith in
            ap (λ (k : ℕ). get_or t k 0) q ∙ at-three i ∙ in-front _ four s i l;
        counts = λ i l.
            let q : 2 * s + y + i ≡ s + (y + (s + i)) = omega arith in
            ap (λ (k : ℕ). get_or t k 0) q ∙ at-four i ∙ in-front _ (places ++ rest) s i l;
        places = λ k l.
            let q : 3 * s + y + k ≡ s + (y + (s + (s + k))) = omega arith in
            let m : k < length places = rw (view-relocations f r) at l in
            ap (λ (j : ℕ). get_or t j 0) q ∙ at_five k ∙ get_or-append places rest 0 k m;
      }
