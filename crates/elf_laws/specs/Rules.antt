-- The rules of 26 one by one.
use Rattle.std.specs.Prelude.{◌≡◌, true, ◌||◌, List, ℕ, ◌*◌, ◌≤◌, eqb, length}
use Rattle.std.proofs.Common.{leb-true}
use Rattle.lists.specs.Tests.{both_true}
use Rattle.model.specs.Bytes.{maybe, inside}
use Rattle.model.specs.Deposit.{all}
use Rattle.model.specs.Elf.{entry_count, File}
use Rattle.model.specs.ElfRefusals.{header_ok, links_strings, section_names_ok, symbol_table_ok, reloc_table_ok, entries_of, limits_ok, rules_ok}

pub record Ruled (f : List ℕ) (p : File) : Type 0 where
  pub long : 64 ≤ length f
  pub short : length f ≤ 16777216
  pub few-sections : p.count ≤ 4097
  pub few-symbols : maybe p.symbols 0 (λ t. entry_count t) ≤ 65537
  pub few-relocations : entries_of p.relocations ≤ 65536
  pub table : (eqb p.count 0 || inside p.at (64 * p.count) (length f)) ≡ true
  pub sections : all (header_ok (length f)) p.sections ≡ true
  pub link : (eqb p.count 0 || links_strings p.sections p.names) ≡ true
  pub names : section_names_ok f p ≡ true
  pub symbols : maybe p.symbols true (symbol_table_ok f p) ≡ true
  pub relocations : all (reloc_table_ok p.sections) p.relocations ≡ true

pub ruled : (f : List ℕ) (p : File) → rules_ok f p ≡ true → Ruled f p
unfolding rules_ok limits_ok
ruled f p e =
    let (a, e₁) = both_true _ _ e in
    let (b, e₂) = both_true _ _ e₁ in
    let (c, e₃) = both_true _ _ e₂ in
    let (d, e₄) = both_true _ _ e₃ in
    let (g, e₅) = both_true _ _ e₄ in
    let (h, e₆) = both_true _ _ e₅ in
    let (i, j) = both_true _ _ e₆ in
    let (k, b₁) = both_true _ _ b in
    let (l, b₂) = both_true _ _ b₁ in
    let (m, n) = both_true _ _ b₂ in
    record {
      long = leb-true _ _ a;
      short = leb-true _ _ k;
      few-sections = leb-true _ _ l;
      few-symbols = leb-true _ _ m;
      few-relocations = leb-true _ _ n;
      table = c;
      sections = d;
      link = g;
      names = h;
      symbols = i;
      relocations = j;
    }
