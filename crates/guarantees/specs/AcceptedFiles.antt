-- What holds of the object that a file of bytes states: it is `Stated`, and its symbols' indexes are at least 1.
use Rattle.std.specs.Prelude.{◌≡◌, Bool, true, false, cond, List, [], map, length, take, drop, None, Option, Some}
use Rattle.std.proofs.Common.{ap, inl, inr}
use Prim.Native.Nat.{ℕ, zero, suc, ◌+◌, ◌-◌, ◌/◌, ◌<◌, min}
use native.Mathlib.Omega.{arith}
use Rattle.model.specs.declared.Endianness.{Endianness}
use Rattle.model.specs.Bytes.{maybe, ◌∈◌, AllBytes}
use Rattle.model.specs.Object.{Symbol}
use Rattle.model.specs.Elf.{numbered_records, Header, header_of, is_type, entry_count, File, file_sections, file_of, file_data, strings_of, file_section, file_symbol, file_symbols, stated_in, elf_object_of}
use Rattle.encoding.specs.Code.{all_drop, all_take}
use Rattle.guarantees.specs.OptionsAndLists.{map-∈}
use Rattle.guarantees.specs.AcceptedObjects.{Rising, Stated}

module _ (f : List ℕ) (p : File) (names : List ℕ) (o : Endianness) where
  -- sections are numbered from 1 on
  rising-headers : (i n : ℕ) (s : List ℕ) → Rising i (map (file_section f p names) (numbered_records (header_of o) 64 (suc i) n s))
  unfolding numbered_records header_of file_section
  rising-headers i zero s = tt
  rising-headers i (suc n) s = (omega arith, rising-headers (suc i) n (drop 64 s))

file-data-bytes : (f : List ℕ) (h : Header) → AllBytes f → AllBytes (file_data f h)
unfolding file_data
file-data-bytes f h a = go (is_type 8 h)
  where
    go : (b : Bool) → AllBytes (cond b [] (take h.size (drop h.offset f)))
    go true = tt
    go false = all_take h.size _ (all_drop h.offset f a)

file-section-bytes : (f : List ℕ) (p : File) (names : List ℕ) (h : Header) → AllBytes f → AllBytes (file_section f p names h).bytes
unfolding file_section
file-section-bytes f p names h a = file-data-bytes f h a

-- a file of bytes, refused or not, states an object whose section indexes rise from 1 and whose data are bytes
pub elf-stated : (f : List ℕ) → AllBytes f → Stated (elf_object_of f)
unfolding elf_object_of stated_in file_of file_sections
elf-stated f a =
    let p = file_of f in
    let names = strings_of f p p.names in
    record {
      rising = rising-headers f p names p.order 0 (min p.count ((length f + 16 - p.at) / 64) - 1) (drop (p.at + 64) f);
      bytes = λ s m. let (h, n, q) = map-∈ (file_section f p names) s p.sections m in rw q (file-section-bytes f p names h a);
    }

above-entries : (o : Endianness) (strings : List ℕ) (i n : ℕ) (s : List ℕ) (y : Symbol) → y ∈ numbered_records (file_symbol o strings) 24 (suc i) n s → i < y.index.0
unfolding numbered_records file_symbol
above-entries o strings i zero s y m = absurd m
above-entries o strings i (suc n) s y (inl q) = let e : y.index.0 ≡ suc i = ap (λ x. x.index.0) q in omega arith
above-entries o strings i (suc n) s y (inr m) = let k : suc i < y.index.0 = above-entries o strings (suc i) n (drop 24 s) y m in omega arith

-- 'Section and symbol indexes are at least 1'
pub elf-symbols-from-1 : (f : List ℕ) (y : Symbol) → y ∈ (elf_object_of f).symbols → 0 < y.index.0
unfolding elf_object_of stated_in file_symbols
elf-symbols-from-1 f y m = go (file_of f).symbols m
  where
    go : (t : Option Header) → y ∈ maybe t [] (file_symbols f (file_of f)) → 0 < y.index.0
    go None m = absurd m
    go (Some t) m = above-entries (file_of f).order (strings_of f (file_of f) t.link) 0 (entry_count t - 1) (drop (t.offset + 24) f) y m
