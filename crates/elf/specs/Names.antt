-- All of 26 by 26 but for the names, and the names.
use Rattle.std.specs.Prelude.{◌≡◌, refl, Bool, true, false, ◌&&◌, ◌||◌, List, ℕ, ◌*◌, eqb, leb, length, None, Option, Some}
use Rattle.std.proofs.Common.{ap, ◌∙◌}
use Rattle.model.specs.Bytes.{maybe, inside}
use Rattle.model.specs.Deposit.{all}
use Rattle.model.specs.Elf.{Header, whole_entries, File, file_of}
use Rattle.model.specs.ElfRefusals.{header_ok, links_strings, section_names_ok, symbol_table_ok, reloc_table_ok, limits_ok, rules_ok}
use Rattle.elf_layout.specs.Layout.{tables_ok}

-- 26 on the symbol table, its names among it
abbrev pub symbols_ok : List ℕ → File → Bool
symbols_ok f p = maybe p.symbols true (symbol_table_ok f p)

-- 26 on all names
abbrev pub names_ok : List ℕ → Bool
names_ok f = section_names_ok f (file_of f) && symbols_ok f (file_of f)

-- what passes with its names passes without them
symbols-more : (f : List ℕ) (p : File) (y : Option Header)
    → maybe y true (symbol_table_ok f p) ≡ (maybe y true (λ t. links_strings p.sections t.link && whole_entries t) && maybe y true (symbol_table_ok f p))
unfolding symbol_table_ok
symbols-more f p None = refl
symbols-more f p (Some t) = go (links_strings p.sections t.link) (whole_entries t) _
  where
    go : (a b c : Bool) → (a && (b && c)) ≡ ((a && b) && (a && (b && c)))
    go true true c = refl
    go true false c = refl
    go false b c = refl

-- the tests of 26 but the names (a to g, y, r), with the names (n, m) in their places
in_order : (a b c d g n y m r : Bool) → (a && (b && (c && (d && (g && (n && ((y && m) && r))))))) ≡ ((a && (b && (c && (d && (g && (y && r)))))) && (n && m))
in_order false b c d g n y m r = refl
in_order true false c d g n y m r = refl
in_order true true false d g n y m r = refl
in_order true true true false g n y m r = refl
in_order true true true true false n y m r = refl
in_order true true true true true false y m r = go (y && r)
  where
    go : (b : Bool) → false ≡ (b && false)
    go true = refl
    go false = refl
in_order true true true true true true false m r = refl
in_order true true true true true true true m r = go m r
  where
    go : (m r : Bool) → (m && r) ≡ (r && m)
    go true true = refl
    go true false = refl
    go false true = refl
    go false false = refl

pub rules-by-names : (f : List ℕ) (p : File) → rules_ok f p ≡ (tables_ok f p && (section_names_ok f p && symbols_ok f p))
unfolding rules_ok tables_ok
rules-by-names f p =
    let a : Bool = leb 64 (length f) in
    let b : Bool = limits_ok (length f) p in
    let c : Bool = eqb p.count 0 || inside p.at (64 * p.count) (length f) in
    let d : Bool = all (header_ok (length f)) p.sections in
    let g : Bool = eqb p.count 0 || links_strings p.sections p.names in
    let n : Bool = section_names_ok f p in
    let r : Bool = all (reloc_table_ok p.sections) p.relocations in
    ap (λ (x : Bool). a && (b && (c && (d && (g && (n && (x && r))))))) (symbols-more f p p.symbols)
    ∙ in_order a b c d g n (maybe p.symbols true (λ t. links_strings p.sections t.link && whole_entries t)) (symbols_ok f p) r
