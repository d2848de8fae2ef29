-- The file header, and the section headers by number, counted from 0: number i is section i + 1.
use Rattle.std.specs.Prelude.{◌≡◌, refl, Bool, true, false, cond, List, ℕ, ◌+◌, ◌-◌, ◌*◌, ◌/◌, ◌≤◌, min, eqb, length}
use Rattle.std.proofs.Common.{sym, ap, ◌∙◌, arith, eqb-true}
use Rattle.std.proofs.lemmas.Bool.{eqb-false}
use Rattle.lists.specs.Tab.{tab, tab-none}
use Rattle.model.specs.declared.Endianness.{Endianness}
use Rattle.model.specs.Bytes.{part}
use Rattle.model.specs.LicenceVersion.{number}
use Rattle.model.specs.Elf.{field, Header, header_of, File, file_sections, file_of}
use Rattle.elf_laws.specs.Places.{part-part, numbered-tab}
use Rattle.elf_header.specs.declared.FileHeader.{FileHeader}
use Rattle.elf_header.specs.declared.Headers.{Headers}

abbrev pub header_in : List ℕ → Headers → ℕ → Header
header_in f h i = header_of h.order (1 + i) (part f (h.first + 64 * i) 64)

-- the field of w bytes at byte k of a header
abbrev pub header_field : List ℕ → Headers → ℕ → ℕ → ℕ → ℕ
header_field f h i k w = field h.order (part f (h.first + 64 * i) 64) k w

-- where it lies in the file
pub field_in_file : (f : List ℕ) (h : Headers) (i k w : ℕ) → k + w ≤ 64
    → number h.order (part f (h.first + 64 * i + k) w) ≡ header_field f h i k w
field_in_file f h i k w l = ap (number h.order) (sym (part-part f (h.first + 64 * i) 64 k w l))

-- e_shnum, where there is a section header table
abbrev pub entries_at : List ℕ → Endianness → ℕ → ℕ
entries_at f o at = cond (eqb at 0) 0 (field o f 60 2)

unfoldable pub file_header_of : List ℕ → FileHeader
file_header_of f = record { order = (file_of f).order; at = (file_of f).at; count = (file_of f).count; names = (file_of f).names }

-- how many sections have the first 48 bytes of their header in a file of so many bytes
abbrev pub present_sections : ℕ → FileHeader → ℕ
present_sections len h = min h.count ((len + 16 - h.at) / 64) - 1

-- where the header of section 1 lies
abbrev pub first_place : ℕ → ℕ → ℕ
first_place at sections = cond (eqb sections 0) 0 (at + 64)

unfoldable pub headers_of : ℕ → FileHeader → Headers
headers_of len h =
    record {
      order = h.order;
      first = first_place h.at (present_sections len h);
      sections = present_sections len h;
    }

-- the headers of a file
abbrev pub headers_in : List ℕ → Headers
headers_in f = headers_of (length f) (file_header_of f)

-- they are its sections
pub sections-by-number : (f : List ℕ) → (file_of f).sections ≡ tab (header_in f (headers_in f)) (headers_in f).sections
unfolding file_of file_sections file_header_of headers_of
sections-by-number f = go (eqb n 0) refl
  where
    p : File
    p = file_of f

    n : ℕ
    n = min p.count ((length f + 16 - p.at) / 64) - 1

    go : (b : Bool) → eqb n 0 ≡ b → (file_of f).sections ≡ tab (λ i. header_of p.order (1 + i) (part f (cond b 0 (p.at + 64) + 64 * i) 64)) n
    go true e =
        let z : n ≡ 0 = eqb-true _ _ e in
        numbered-tab (header_of p.order) 64 f (p.at + 64) 1 n
        ∙ ap (λ (m : ℕ). tab (λ i. header_of p.order (1 + i) (part f (p.at + 64 + 64 * i) 64)) m) z
        ∙ tab-none _
        ∙ sym (ap (λ (m : ℕ). tab (λ i. header_of p.order (1 + i) (part f (0 + 64 * i) 64)) m) z ∙ tab-none _)
    go false e = numbered-tab (header_of p.order) 64 f (p.at + 64) 1 n

-- the first 48 bytes of each are present
pub headers-present : (len : ℕ) (h : FileHeader) → (headers_of len h).first + 64 * (headers_of len h).sections ≤ len + 16
unfolding headers_of
headers-present len h = go (eqb (present_sections len h) 0) refl
  where
    go : (b : Bool) → eqb (present_sections len h) 0 ≡ b → cond b 0 (h.at + 64) + 64 * present_sections len h ≤ len + 16
    go true e = let z : present_sections len h ≡ 0 = eqb-true _ _ e in omega arith
    go false e = let z : present_sections len h ≡ 0 → ⊥ = eqb-false _ _ e in omega arith
