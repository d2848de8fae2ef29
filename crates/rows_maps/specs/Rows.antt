-- The rows of the map table, by the numbers of its maps.
use Rattle.std.specs.Prelude.{◌≡◌, refl, List, [], ◌∷◌, ◌++◌, map, ℕ, ◌+◌, ◌*◌, ◌^◌, ◌<◌, ◌≤◌, get_or, take, drop, replicate}
use Rattle.std.proofs.Common.{ap, ◌∙◌, arith}
use Rattle.std.proofs.Math.ListN.{length}
use Rattle.std.proofs.lemmas.List.Edits.{sets}
use Rattle.model.specs.declared.BpfMapDef.{BpfMapDef}
use Rattle.object_view.specs.declared.View.{View}
use Rattle.model.specs.Bytes.{each}
use Rattle.model.specs.Catalogue.{Map}
use Rattle.model.specs.Lent.{placed, joined, symbol_number, map_name, map_own, map_row}
use Rattle.model.specs.SectionKind.{kind_number}
use Rattle.catalogue_laws.specs.Placed.{each-longer, row_at, placed-sets}
use Rattle.catalogue_numbers.specs.Numbers.{map_at}
use Rattle.rows_maps.specs.declared.Row.{Row}

unfoldable pub map_row_of : Map → Row
map_row_of m =
    record {
      length = length m.name;
      section = m.section.0;
      kind = kind_number m.kind;
      symbol = symbol_number m.symbol;
      own = length m.own;
      def = m.def;
    }

-- a row that is a map's, and whose lengths leave room for sums
pub record Read (m : Map) (r : Row) : Type 0 where
  pub row : r ≡ map_row_of m
  pub name-short : r.length < 2 ^ 32
  pub own-short : r.own < 2 ^ 32

abbrev pub seven_words : BpfMapDef → List ℕ
seven_words w =
    get_or w.words 0 0
    ∷ get_or w.words 1 0
    ∷ get_or w.words 2 0
    ∷ get_or w.words 3 0
    ∷ get_or w.words 4 0
    ∷ get_or w.words 5 0
    ∷ get_or w.words 6 0
    ∷ []

abbrev pub row_front : ℕ → ℕ → Row → List ℕ
row_front place own r = place ∷ r.length ∷ r.section ∷ r.kind ∷ r.symbol ∷ own ∷ r.own ∷ []

-- with its two places, and 13 zeros behind the words
abbrev pub numbers : ℕ → ℕ → Row → List ℕ
numbers place own r = row_front place own r ++ (seven_words r.def ++ replicate 13 0)

row-length : (a b : ℕ) (m : Map) → length (map_row a b m) ≡ 27
unfolding map_row
row-length a b m = refl

module _ (d t : List ℕ) (v : View) where
  -- their names lie one after the other from `at` on, their own bytes from `own` on
  abbrev pub map_rows : ℕ → ℕ → List ℕ → List ℕ
  map_rows at own ns = joined (placed map_name map_own map_row at own (map (map_at d t v) ns))

  abbrev pub map_name_in : ℕ → List ℕ
  map_name_in n = map_name (map_at d t v n)

  abbrev pub own_bytes_in : ℕ → List ℕ
  own_bytes_in n = map_own (map_at d t v n)

  -- the row of the next number
  module _ (ns : List ℕ) (k : ℕ) (r : Row) (read : r ≡ map_row_of (map_at d t v (get_or ns k 0))) (some : k < length ns) where
    -- where the name and the own bytes behind its lie
    pub place-next : (at place : ℕ) → place ≡ at + length (each map_name_in (take k ns)) → place + r.length ≡ at + length (each map_name_in (take (k + 1) ns))
    unfolding map_row_of
    place-next at place e = let g : r.length ≡ length (map_name_in (get_or ns k 0)) = rw read in omega (arith, each-longer map_name_in ns 0 k some)

    pub own-next : (own place : ℕ) → place ≡ own + length (each own_bytes_in (take k ns)) → place + r.own ≡ own + length (each own_bytes_in (take (k + 1) ns))
    unfolding map_row_of
    own-next own place e = let g : r.own ≡ length (own_bytes_in (get_or ns k 0)) = rw read in omega (arith, each-longer own_bytes_in ns 0 k some)

    module _ (at own a b : ℕ) (behind : a ≡ at + length (each map_name_in (take k ns))) (own-behind : b ≡ own + length (each own_bytes_in (take k ns))) where
      row-at : numbers a b r ≡ row_at map_name map_own map_row (map_at d t v) ns at own k
      unfolding map_row_of map_row
      row-at = rw (read, behind, own-behind)

      -- one row more, in a table whose front are those of k maps
      pub rows_more : (out₀ out : List ℕ) → k * 27 + 27 ≤ length out₀ → out ≡ map_rows at own (take k ns) ++ drop (k * 27) out₀
          → sets out (k * 27) (numbers a b r) ≡ map_rows at own (take (k + 1) ns) ++ drop ((k + 1) * 27) out₀
      rows_more out₀ out room q =
          ap (sets out (k * 27)) row-at ∙ rw q (placed-sets map_name map_own map_row (map_at d t v) ns at own 27 k out₀ row-length some room)
