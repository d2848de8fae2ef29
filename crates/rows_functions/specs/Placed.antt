-- The rows that are stored are the catalogue's, behind which the table is filled with zeros.
use Rattle.std.specs.Prelude.{◌≡◌, refl, get_or, drop}
use Rattle.std.proofs.Common.{sym, ◌∙◌, ⊎_elim, eq-or-lt_of_le, lt-ltb, length-append, drop-cons}
use Rattle.std.proofs.Math.Path.{ap}
use mathlib.Core.List.{List, [], ◌∷◌, map}
use Prim.Native.Nat.{ℕ, zero, suc, ◌+◌, ◌-◌, ◌*◌, ◌/◌, ◌^◌, ◌<◌, ◌≤◌, min}
use native.Mathlib.Omega.{arith}
use Rattle.std.proofs.Math.ListN.{length, drop_of_length-le}
use Rattle.model.specs.declared.Function.{Function as FunctionRow}
use Rattle.model.specs.declared.SectionRecord.{SectionRecord}
use Rattle.model.specs.declared.SymbolRecord.{SymbolRecord}
use Rattle.model.specs.Bytes.{each}
use Rattle.model.specs.Catalogue.{Function}
use Rattle.model.specs.Contents.{function_at}
use Rattle.model.specs.Instruction.{instructions}
use Rattle.model.specs.Lent.{function_name, function_code, function_row, placed, range, filled, zero_row}
use Rattle.model.specs.Symbols.{top}
use Rattle.stream.specs.Stream.{length-bytes}
use Rattle.insn.specs.Sanitized.{length-each-eight}
use Rattle.object_view.specs.declared.View.{View}
use Rattle.records.specs.View.{gap_of, symbol_at}
use Rattle.object.specs.View.{section_from, symbol_from}
use Rattle.catalogue_numbers.specs.Function.{section_of_function, start_of, function-is}
use Rattle.catalogue_numbers.specs.Numbers.{function_by_number as function_by}
use Rattle.rows_functions.specs.declared.Rows.{Rows}
use Rattle.rows_functions.specs.Rows.{code_length, row_made, made_of, rows_made, made_row}
use Rattle.rows_functions.specs.Stored.{rows-past}

length-instructions : (n : ℕ) (d : List ℕ) → length (instructions n d) ≡ n
unfolding instructions
length-instructions zero d = refl
length-instructions (suc n) d = ap suc (length-instructions n (drop 8 d))

-- of two numbers at most the largest number, the smaller is the one
under_top : (x y : ℕ) → x ≡ y → y ≤ top → min x top ≡ y
under_top x y e h = omega arith

each-cons : {A : Type 0} (p : A → List ℕ) (x : A) (xs : List A) → length (each p (x ∷ xs)) ≡ length (p x) + length (each p xs)
unfolding each
each-cons p x xs = length-append (p x) (each p xs)

module _ (d t : List ℕ) (v : View) where
  -- the function of a symbol's number
  abbrev pub function_of_number : ℕ → Function
  function_of_number = function_by d t v

  -- the names and the code of the next row begin at a and c
  abbrev pub rows_from : ℕ → ℕ → Rows
  rows_from a c = record { name = a; code = c }

  -- ---- one row

  module _ (j : ℕ) where
    abbrev y : SymbolRecord
    y = symbol_at d t v j

    abbrev s : SectionRecord
    s = section_of_function d t v j

    abbrev plain : Function
    plain = function_at (section_from d t v s) y.address (start_of d t v j) (symbol_from d t v y)

    plain-name : length (function_name plain) ≡ y.name.length
    unfolding function_at symbol_from
    plain-name = length-bytes d (gap_of v) (v.at.names + y.name.at) y.name.length

    plain_code : length (function_code plain) ≡ code_length y
    unfolding function_at symbol_from
    plain_code = length-each-eight _ ∙ ap (λ (n : ℕ). n * 8) (length-instructions (y.size / 8) _)

    name-length : length (function_name (function_of_number j)) ≡ y.name.length
    name-length = ap (λ (f : Function). length (function_name f)) (function-is d t v j) ∙ plain-name

    code-length : length (function_code (function_of_number j)) ≡ code_length y
    code-length = ap (λ (f : Function). length (function_code f)) (function-is d t v j) ∙ plain_code

    module _ (a c : ℕ) where
      plain_row : function_row a c plain ≡ (row_made d t v j (rows_from a c)).row
      unfolding function_row row_made function_at section_from symbol_from
      plain_row = λ k. record { section = s.index; address = y.address; offset = start_of d t v j; name = range a (plain-name k); code = range c (plain_code k) }

      row_is : (row_made d t v j (rows_from a c)).row ≡ function_row a c (function_of_number j)
      row_is = sym (ap (function_row a c) (function-is d t v j) ∙ plain_row)

      rest-is : a + length (function_name (function_of_number j)) ≤ top → c + length (function_code (function_of_number j)) ≤ top
          → (row_made d t v j (rows_from a c)).rest ≡ rows_from (a + length (function_name (function_of_number j))) (c + length (function_code (function_of_number j)))
      unfolding row_made
      rest-is p q =
          let e : min (a + y.name.length) top ≡ a + length (function_name (function_of_number j)) = under_top _ _ (ap (λ (m : ℕ). a + m) (sym name-length)) p in
          let f : min (c + code_length y) top ≡ c + length (function_code (function_of_number j)) = under_top _ _ (ap (λ (m : ℕ). c + m) (sym code-length)) q in
          λ k. record { name = e k; code = f k }

  -- ---- all of them

  module _ (order : List ℕ) where
    -- the numbers from number i on
    abbrev from : ℕ → List ℕ
    from i = drop i order

    abbrev rows_at : ℕ → ℕ → List Function → List FunctionRow
    rows_at = placed function_name function_code function_row

    past : (m i a c : ℕ) → length order ≤ i → rows_made d t v order i (rows_from a c) m ≡ filled zero_row m (rows_at a c (map function_of_number (from i)))
    unfolding placed
    past m i a c l =
        let e : from i ≡ [] = drop_of_length-le order l in
        let f : m - 0 ≡ m = omega arith in
        rows-past d t v order i (rows_from a c) m l ∙ rw (e, f)

    filled_more : (m a c j : ℕ) (js : List ℕ)
        → function_row a c (function_of_number j) ∷ filled zero_row m (rows_at (a + length (function_name (function_of_number j))) (c + length (function_code (function_of_number j))) (map function_of_number js))
        ≡ filled zero_row (suc m) (rows_at a c (map function_of_number (j ∷ js)))
    unfolding placed
    filled_more m a c j js =
        let xs : List FunctionRow = rows_at (a + length (function_name (function_of_number j))) (c + length (function_code (function_of_number j))) (map function_of_number js) in
        let e : suc m - suc (length xs) ≡ m - length xs = omega arith in
        rw e

    -- the names and the code from number i on end where they can be told
    abbrev Ends : ℕ → ℕ → ℕ → Type 0
    Ends i a c = (a + length (each function_name (map function_of_number (from i))) ≤ top) × (c + length (each function_code (map function_of_number (from i))) ≤ top)

    -- the row of number i, and those behind it
    module _ (m i a c : ℕ) (lt : i < length order) (ends : Ends i a c) where
      abbrev j : ℕ
      j = get_or order i 0

      abbrev a' : ℕ
      a' = a + length (function_name (function_of_number j))

      abbrev c' : ℕ
      c' = c + length (function_code (function_of_number j))

      cut : from i ≡ j ∷ from (suc i)
      cut = drop-cons order i 0 lt

      part_of : (p : Function → List ℕ) → length (each p (map function_of_number (from i))) ≡ length (p (function_of_number j)) + length (each p (map function_of_number (from (suc i))))
      part_of p = ap (λ (js : List ℕ). length (each p (map function_of_number js))) cut ∙ each-cons p (function_of_number j) (map function_of_number (from (suc i)))

      ends-behind : Ends (suc i) a' c'
      ends-behind = (omega (arith, part_of function_name, ends.0), omega (arith, part_of function_code, ends.1))

      next-stored : rows_made d t v order (suc i) (rows_from a' c') m ≡ filled zero_row m (rows_at a' c' (map function_of_number (from (suc i))))
          → rows_made d t v order i (rows_from a c) (suc m) ≡ filled zero_row (suc m) (rows_at a c (map function_of_number (from i)))
      unfolding rows_made
      next-stored e =
          let made : made_of d t v order i (rows_from a c) ≡ row_made d t v j (rows_from a c) = made_row d t v order i (rows_from a c) (lt-ltb i (length order) lt) in
          rw (made, row_is j a c, rest-is j a c (omega (arith, part_of function_name, ends.0)) (omega (arith, part_of function_code, ends.1)))
          (ap (λ (rs : List FunctionRow). function_row a c (function_of_number j) ∷ rs) e
          ∙ filled_more m a c j (from (suc i))
          ∙ ap (λ (js : List ℕ). filled zero_row (suc m) (rows_at a c (map function_of_number js))) (sym cut))

    stored-from : (m i a c : ℕ) → i ≤ length order → length order - i ≤ m → Ends i a c → rows_made d t v order i (rows_from a c) m ≡ filled zero_row m (rows_at a c (map function_of_number (from i)))
    stored-from zero i a c l room ends = past zero i a c (omega arith)
    stored-from (suc m) i a c l room ends =
        ⊎_elim (λ e. past (suc m) i a c (omega arith))
        (λ lt. next-stored m i a c lt ends (stored-from m (suc i) (a' m i a c lt ends) (c' m i a c lt ends) lt (omega arith) (ends-behind m i a c lt ends)))
        (eq-or-lt_of_le l)

    -- the table that is stored is the catalogue's, where its names and code end below 2^64
    pub rows_are : (m a c : ℕ) → length order ≤ m → a + length (each function_name (map function_of_number order)) < 2 ^ 64 → c + length (each function_code (map function_of_number order)) < 2 ^ 64
        → rows_made d t v order 0 (rows_from a c) m ≡ filled zero_row m (placed function_name function_code function_row a c (map function_of_number order))
    rows_are m a c l p q = stored-from m 0 a c (omega arith) (omega arith) (omega arith, omega arith)
