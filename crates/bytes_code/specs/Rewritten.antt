-- The code of functions, laid one after the other, rewritten.
use Rattle.std.specs.Prelude.{◌≡◌, refl, true, List, [], ◌∷◌, ◌++◌, map, ℕ, zero, suc, ◌*◌, ◌/◌, ◌<◌, length, take}
use Rattle.std.proofs.Common.{◌∙◌, arith}
use Rattle.object_view.specs.declared.View.{View}
use Rattle.model.specs.Bytes.{each, AllBytes}
use Rattle.model.specs.Catalogue.{Function}
use Rattle.model.specs.Instruction.{instructions}
use Rattle.model.specs.Lent.{function_code}
use Rattle.model.specs.Patching.{rewrite_function}
use Rattle.stream.specs.Stream.{byte_at}
use Rattle.records.specs.View.{gap_of, symbol_at}
use Rattle.insn.specs.Sanitized.{sanitized, sanitized-code, sanitized-join, length-each-eight}
use Rattle.catalogue_numbers.specs.Numbers.{function_by_number}
use Rattle.catalogue_numbers.specs.Fits.{FunctionFits}
use Rattle.bytes_code.specs.Code.{code_bytes, code_read, AllFit, bytes-found}

-- a function whose instructions were read from bytes
pub record Encoded (f : Function) : Type 0 where
  pub count : ℕ
  pub bytes : List ℕ
  pub read : f.code ≡ instructions count bytes
  pub long : length bytes ≡ count * 8
  pub all : AllBytes bytes

abbrev pub AllEncoded : List Function → Type 0
AllEncoded [] = Unit {0}
AllEncoded (f ∷ fs) = Encoded f × AllEncoded fs

rewritten-one : (f : Function) → Encoded f → sanitized true (function_code f) ≡ function_code (rewrite_function f)
unfolding rewrite_function
rewritten-one f e = rw e.read (sanitized-code true e.count e.bytes e.long e.all)

-- all of it at once
pub rewritten-code : (fs : List Function) → AllEncoded fs → sanitized true (each function_code fs) ≡ each function_code (map rewrite_function fs)
unfolding each sanitized instructions
rewritten-code [] e = refl
rewritten-code (f ∷ fs) e =
    sanitized-join true (length f.code) (function_code f) (each function_code fs) (length-each-eight f.code)
    ∙ (λ k. rewritten-one f e.0 k ++ rewritten-code fs e.1 k)

-- those of a table of numbers
module _ (d t : List ℕ) (v : View) (small : (k : ℕ) → byte_at d (gap_of v) k < 256) where
  encoded : (j : ℕ) → FunctionFits d t v j → Encoded (function_by_number d t v j)
  encoded j fits =
      let b = bytes-found d t v j fits small in
      record { count = (symbol_at d t v j).size / 8; bytes = code_bytes d t v j; read = code_read d t v j; long = b.0; all = b.1 }

  pub all-encoded : (order : List ℕ) (n : ℕ) → AllFit d t v order n → AllEncoded (map (function_by_number d t v) (take n order))
  all-encoded [] zero fit = tt
  all-encoded [] (suc n) fit = tt
  all-encoded (j ∷ order) zero fit = tt
  all-encoded (j ∷ order) (suc n) fit = (encoded j (fit 0 (omega arith)), all-encoded order n (λ k l. fit (suc k) (omega arith)))
