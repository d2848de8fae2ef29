-- The text of a load that left its answer and its tables is the listing, and it has room.
use Rattle.std.specs.Prelude.{◌≡◌, refl, Bool, false, cond, ltb, List, [], ℕ, ◌+◌, ◌*◌, ◌<◌, ◌≤◌, Err, Ok, Result}
use Rattle.std.proofs.Common.{sym, ◌∙◌, arith, lt-ltb, le-ltb}
use Rattle.std.proofs.Math.Path.{ap}
use Rattle.std.proofs.Math.ListN.{length}
use Rattle.model.specs.declared.Summary.{Summary}
use Rattle.model.specs.declared.Refusal.{Refusal}
use Rattle.model.specs.Bytes.{AllBytes}
use Rattle.model.specs.Catalogue.{Catalogue}
use Rattle.model.specs.Lent.{Lent, summary_of, bytes_of}
use Rattle.model.specs.declared.Room.{Room}
use Rattle.model.specs.Listing.{answer_text, catalogue_text, refusal_text, text_of, listing_of}
use Rattle.model.specs.ElfRefusals.{file_listing_of}
use Rattle.model.specs.ReadBack.{read_back}
use Rattle.object_view.specs.Refused.{without_place}
use Rattle.guarantees.specs.WordsOfDemand3.{Input, input_bytes, outcome_on}
use Rattle.guarantees.specs.LentBack.{given_is}
use Rattle.guarantees.proofs.LentBack.{lent-read-back}
use Rattle.listing_laws.specs.Numbers.{Flat}
use Rattle.listing_text.specs.Flat.{flat_answer, AnswerFits}
use Rattle.listing_laws.specs.Bound.{catalogue-most, refusal-most}
use Rattle.listing_laws.specs.Loaded.{within, rows_fit, flat-is}

module _ (x : Input) (entries patches : List ℕ) (on : Bool) (room : Room) where
  module _ (programs functions maps bytes : List ℕ) (flat : Flat (outcome_on x entries patches on room).lent programs functions maps bytes) where
    pub answer-fits : (r : Result Summary Refusal) → r ≡ (outcome_on x entries patches on room).reply → AnswerFits r programs functions maps
    answer-fits (Ok h) e = rows_fit x entries patches on room h (sym e) programs functions maps bytes flat
    answer-fits (Err q) e = tt

    pub answer-text : (r : Result Summary Refusal) → r ≡ (outcome_on x entries patches on room).reply → flat_answer r programs functions maps bytes ≡ text_of (outcome_on x entries patches on room)
    unfolding text_of
    answer-text (Ok h) e =
        flat-is x entries patches on room h (sym e) programs functions maps bytes flat ∙ ap (λ (a : Result Summary Refusal). answer_text a (outcome_on x entries patches on room).lent) e
    answer-text (Err q) e = ap (λ (a : Result Summary Refusal). answer_text a (outcome_on x entries patches on room).lent) e

  -- 'what is lent' bounds the text
  module _ (small : AllBytes (input_bytes x)) where
    accepted-most : (h : Summary) → (outcome_on x entries patches on room).reply ≡ Ok h
        → length (catalogue_text (read_back h (outcome_on x entries patches on room).lent)) ≤ h.bytes + h.programs * 67 + h.functions * 73 + h.maps * 68 + 38
    unfolding read_back summary_of
    accepted-most h e =
        let g = given_is x entries patches on room h e in
        let c : Catalogue = g.catalogue in
        let i : Lent = (outcome_on x entries patches on room).lent in
        let back : read_back h i ≡ c = let a = lent-read-back x entries patches on room h small e in let b = g.answer in cc in
        let n₁ : h.functions ≡ length c.functions = ap (λ x. x.functions) g.summary in
        let n₂ : h.maps ≡ length c.maps = ap (λ x. x.maps) g.summary in
        let n₃ : h.bytes ≡ length (bytes_of c) = ap (λ x. x.bytes) g.summary in
        let m = catalogue-most i.bytes h.programs i.programs c (ap (λ x. x.programs) (sym back)) in
        rw back (omega arith)

    pub text-most : (r : Result Summary Refusal) → r ≡ (outcome_on x entries patches on room).reply
        → length (text_of (outcome_on x entries patches on room)) ≤ room.bytes + 10 * room.programs + 73 * room.functions + 3 * room.maps + 71
    unfolding text_of
    text-most (Ok h) e = rw (sym e) (omega (arith, accepted-most h (sym e), within x entries patches on room h (sym e)))
    text-most (Err q) e = rw (sym e) (omega (arith, refusal-most q))

-- ---- an input of so many bytes at most; a longer one goes back with a number

unfoldable pub text_within : ℕ → ℕ → Input → Room → List ℕ
text_within most number x room = cond (ltb most (length (input_bytes x))) (refusal_text (without_place number)) (text_of (outcome_on x [] [] false room))

module _ (most number : ℕ) (x : Input) (room : Room) where
  pub long-text : most < length (input_bytes x) → text_within most number x room ≡ refusal_text (without_place number)
  unfolding text_within
  long-text h = rw (lt-ltb _ _ h)

  pub short-text : length (input_bytes x) ≤ most → text_within most number x room ≡ text_of (outcome_on x [] [] false room)
  unfolding text_within
  short-text h = rw (le-ltb _ _ h)

pub deposit-text : (room : Room) (d : List ℕ) → listing_of room d ≡ text_within 65536 1 (Input.deposit d) room
unfolding listing_of text_within
deposit-text room d = refl

pub file-text : (most : ℕ) (room : Room) (f : List ℕ) → file_listing_of most room f ≡ text_within most 26 (Input.file f) room
unfolding file_listing_of text_within
file-text most room f = refl
