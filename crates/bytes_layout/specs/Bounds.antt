-- How many bytes a number has of a part at most.
use Rattle.std.specs.Prelude.{◌≡◌, refl, List, ℕ, zero, suc, ◌+◌, ◌*◌, ◌/◌, ◌≤◌, length, drop}
use Rattle.std.proofs.Common.{ap, ◌∙◌, arith}
use Rattle.object_view.specs.declared.View.{View}
use Rattle.stream.specs.Stream.{length-bytes}
use Rattle.records.specs.View.{gap_of, symbol_at}
use Rattle.catalogue_numbers.specs.Fits.{FunctionFits}
use Rattle.catalogue_numbers.specs.Numbers.{home_at, function_by_number}
use Rattle.insn.specs.Sanitized.{length-each-eight}
use Rattle.bytes_code.specs.Code.{code_at, code_bytes, code_read}
use Rattle.model.specs.Instruction.{instructions}
use Rattle.records.specs.Readable.{Readable}
use Rattle.bytes_names.specs.declared.Piece.{Piece}
use Rattle.bytes_names.specs.Inside.{Known, name-fits}
use Rattle.bytes_names.specs.Pieces.{extent_of, piece_of}
use Rattle.bytes_maps.specs.declared.Own.{Own}
use Rattle.bytes_layout.specs.declared.Part.{Part}
use Rattle.bytes_layout.specs.Listed.{part_of, PartFits}
use Rattle.bytes_maps.specs.Own.{own_bytes, own_of, nothing-bytes, zeros-length, zeros-small, data-length, data-fits}

length-instructions : (n : ℕ) (d : List ℕ) → length (instructions n d) ≡ n
unfolding instructions
length-instructions zero d = refl
length-instructions (suc n) d = ap suc (length-instructions n (drop 8 d))

module _ {d t : List ℕ} {v : View} (r : Readable d t v) where
  name-short : (which : Piece) (j : ℕ) → Known which v j → length (piece_of which d t v j) ≤ 16777216
  name-short which j k =
      let l = length-bytes d (gap_of v) (v.at.names + (extent_of which d t v j).at) (extent_of which d t v j).length in
      omega (arith, l, (name-fits d t v r which j k).short)

  own-short : (n : ℕ) → length (own_bytes d t v n) ≤ 16777216
  own-short n = go (own_of d t v n) refl
    where
      go : (w : Own) → w ≡ own_of d t v n → length (own_bytes d t v n) ≤ 16777216
      go Own.Nothing e = rw (nothing-bytes d t v n e) (omega arith)
      go (Own.Zeros m) e = rw (zeros-length d t v n m e) (zeros-small d t v n r m e)
      go (Own.Bytes x) e = rw (data-length d t v n x e) (data-fits d t v n r x e).short

  code-short : (j : ℕ) → FunctionFits d t v j → length (code_at d t v j) ≤ 16777216
  code-short j e =
      let l : length (code_at d t v j) ≡ (symbol_at d t v j).size / 8 * 8 =
      length-each-eight (function_by_number d t v j).code ∙ ap (λ is. length is * 8) (code_read d t v j) ∙ ap (λ n. n * 8) (length-instructions ((symbol_at d t v j).size / 8) (code_bytes d t v j))
      in
      omega (arith, e.within, (r.section-data (home_at d t v j) e.home).short)

  part-short : (part : Part) (j : ℕ) → PartFits part d t v j → length (part_of part d t v j) ≤ 16777216
  part-short (Part.Name which) j k = name-short which j k
  part-short Part.Code j e = code-short j e
  part-short Part.Own j e = own-short j

  -- by the part that was told
  pub part-told : (part told : Part) (j n : ℕ) → part ≡ told → PartFits part d t v j → n ≡ length (part_of told d t v j) → (n ≡ length (part_of part d t v j)) × (n ≤ 16777216)
  part-told part told j n e f q = let l = part-short part j f in let k : n ≡ length (part_of part d t v j) = rw e q in (k, omega arith)
