-- A function's code, by its symbol's number: as many bytes of its section's data as the symbol's size says.
use Rattle.std.specs.Prelude.{◌≡◌, List, ℕ, zero, suc, ◌+◌, ◌*◌, ◌/◌, ◌^◌, ◌<◌, ◌≤◌, length, get_or}
use Rattle.std.proofs.Common.{sym, ◌∙◌, le_trans, arith}
use Rattle.std.proofs.Math.Path.{ap}
use Rattle.object_view.specs.declared.View.{View}
use Rattle.model.specs.declared.SectionRecord.{SectionRecord}
use Rattle.model.specs.declared.SymbolRecord.{SymbolRecord}
use Rattle.model.specs.Bytes.{each, part, AllBytes}
use Rattle.model.specs.Catalogue.{Function}
use Rattle.model.specs.Contents.{function_at as function_of}
use Rattle.model.specs.Instruction.{instructions, eight}
use Rattle.model.specs.Lent.{function_code}
use Rattle.encoding.specs.Code.{code_is}
use Rattle.stream.specs.Stream.{place, byte_at, bytes_at, length-bytes}
use Rattle.stream.specs.Laws.{part_bytes, place_mono}
use Rattle.records.specs.View.{gap_of, symbol_at, data_in}
use Rattle.records.specs.Readable.{DataFits, Readable}
use Rattle.object.specs.Offset.{code_offset}
use Rattle.object.specs.View.{section_from, symbol_from}
use Rattle.catalogue_numbers.specs.Numbers.{home_at, function_by_number}
use Rattle.catalogue_numbers.specs.Fits.{FunctionFits}
use Rattle.catalogue_numbers.specs.Function.{section_of_function, start_of, function-is}

module _ (d t : List ℕ) (v : View) where
  abbrev pub code_at : ℕ → List ℕ
  code_at j = function_code (function_by_number d t v j)

  -- the first n numbers of a table are functions that fit their sections
  abbrev pub AllFit : List ℕ → ℕ → Type 0
  AllFit order n = (k : ℕ) → k < n → FunctionFits d t v (get_or order k 0)

  offset-is : (j : ℕ) → (function_by_number d t v j).offset ≡ start_of d t v j
  unfolding function_of
  offset-is j = ap (λ (f : Function). f.offset) (function-is d t v j)

  -- its bytes in the data
  abbrev pub code_bytes : ℕ → List ℕ
  code_bytes j = part (data_in d v (section_of_function d t v j).bytes) (start_of d t v j) (symbol_at d t v j).size

  pub code_read : (j : ℕ) → (function_by_number d t v j).code ≡ instructions ((symbol_at d t v j).size / 8) (code_bytes j)
  unfolding function_of section_from symbol_from
  code_read j = ap (λ (f : Function). f.code) (function-is d t v j)

-- the code of function j lies in the data of section s, from offset o on
pub record CodeFound (d t : List ℕ) (v : View) (j : ℕ) (s : SectionRecord) (o : ℕ) (y : SymbolRecord) : Type 0 where
  pub short : o + y.size < 2 ^ 32
  pub code : bytes_at d (gap_of v) (v.at.bytes + s.bytes.at + o) y.size ≡ code_at d t v j
  pub long : length (code_at d t v j) ≡ y.size
  pub placed : place (gap_of v) (v.at.bytes + s.bytes.at + o + y.size) ≤ length d

all_small : (d : List ℕ) (gap : ℕ) → ((k : ℕ) → byte_at d gap k < 256) → (p n : ℕ) → AllBytes (bytes_at d gap p n)
unfolding bytes_at
all_small d gap small p zero = tt
all_small d gap small p (suc n) = (small p, all_small d gap small (p + 1) n)

-- a function that fits its section
module _ (d t : List ℕ) (v : View) (j : ℕ) (fits : FunctionFits d t v j) where
  inside : start_of d t v j + (symbol_at d t v j).size ≤ (section_of_function d t v j).bytes.length
  inside = rw offset-is at fits.within

  bytes-are : code_bytes d t v j ≡ bytes_at d (gap_of v) (v.at.bytes + (section_of_function d t v j).bytes.at + start_of d t v j) (symbol_at d t v j).size
  bytes-are = part_bytes d (gap_of v) (v.at.bytes + (section_of_function d t v j).bytes.at) (section_of_function d t v j).bytes.length (start_of d t v j) (symbol_at d t v j).size inside

  module _ (small : (k : ℕ) → byte_at d (gap_of v) k < 256) where
    -- whole instructions
    pub bytes-found : (length (code_bytes d t v j) ≡ (symbol_at d t v j).size / 8 * 8) × AllBytes (code_bytes d t v j)
    bytes-found =
        let w = fits.whole in
        let l : length (code_bytes d t v j) ≡ (symbol_at d t v j).size =
        ap length bytes-are ∙ length-bytes d (gap_of v) (v.at.bytes + (section_of_function d t v j).bytes.at + start_of d t v j) (symbol_at d t v j).size
        in
        (omega (arith, l, w), rw bytes-are (all_small d (gap_of v) small _ _))

    code-bytes : code_at d t v j ≡ bytes_at d (gap_of v) (v.at.bytes + (section_of_function d t v j).bytes.at + start_of d t v j) (symbol_at d t v j).size
    code-bytes =
        ap (each eight) (code_read d t v j) ∙ code_is ((symbol_at d t v j).size / 8) (code_bytes d t v j) bytes-found.0 bytes-found.1 ∙ bytes-are

    pub code-length : length (code_at d t v j) ≡ (symbol_at d t v j).size
    code-length = ap length code-bytes ∙ length-bytes d (gap_of v) (v.at.bytes + (section_of_function d t v j).bytes.at + start_of d t v j) (symbol_at d t v j).size

  -- of a view that is readable
  module _ (r : Readable d t v) where
    of-data : DataFits d v (section_of_function d t v j).bytes
    of-data = r.section-data (home_at d t v j) fits.home

    pub size_small : (symbol_at d t v j).size < 2 ^ 32
    size_small = omega (arith, inside, of-data.short)

    module _ (small : (k : ℕ) → byte_at d (gap_of v) k < 256) where
      is_found : CodeFound d t v j (section_of_function d t v j) (start_of d t v j) (symbol_at d t v j)
      is_found =
          let b = (section_of_function d t v j).bytes in
          let end : v.at.bytes + b.at + start_of d t v j + (symbol_at d t v j).size ≤ v.at.bytes + b.at + b.length = omega (arith, inside) in
          record {
            short = omega (arith, inside, of-data.short);
            code = sym (code-bytes small);
            long = code-length small;
            placed = le_trans (place_mono (gap_of v) _ _ end) of-data.placed;
          }

      pub found : (y : SymbolRecord) (s : SectionRecord) (o : ℕ) → y ≡ symbol_at d t v j → s ≡ section_of_function d t v j → o ≡ code_offset d t v s y → CodeFound d t v j s o y
      found y s o ey es eo = rw (eo, es, ey) is_found
