-- What refuses a program section, by its name and its symbols: 8, then 9, then its programs.
use Rattle.std.specs.Prelude.{◌≡◌, Bool, true, false, cond, List, map, ℕ, eqb, length, Err, Ok, Option, Result, Some}
use Rattle.std.proofs.Math.Path.{refl}
use Rattle.std.specs.Result.{is_err}
use Rattle.model.specs.declared.ProgramSection.{ProgramSection}
use Rattle.model.specs.declared.ProgramSectionError.{ProgramSectionError}
use Rattle.model.specs.declared.Refusal.{Refusal}
use Rattle.model.specs.declared.SectionRecord.{SectionRecord}
use Rattle.model.specs.Bytes.{first_in, or_else}
use Rattle.model.specs.ProgramName.{from_str, section_number}
use Rattle.model.specs.Refusals.{no_symbol, of_number, of_section, program_symbol_refusal, program_refusal}
use Rattle.object_view.specs.declared.View.{View}
use Rattle.records.specs.View.{name_in}
use Rattle.object.specs.Group.{members_in, programs_among, symbols-in, programs-in, empty-by-length}
use Rattle.object.specs.View.{section_from, symbol_in, object_in}

module _ (d t : List ℕ) (v : View) (s : SectionRecord) where
  abbrev named : ℕ → Option Refusal
  named n = Some (record { number = n; section = s.index; symbol = no_symbol; entry = 0 })

  pub refused_by_group : program_refusal (object_in d t v) (section_from d t v s)
      ≡ cond (is_err (from_str (name_in d v s.name))) (named 8)
      (cond (eqb (length (members_in d t v s)) 0) (named 9)
      (first_in (program_symbol_refusal (section_from d t v s)) (map (symbol_in d t v) (programs_among d t v (members_in d t v s)))))
  unfolding program_refusal section_from
  refused_by_group =
      rw (symbols-in d t v s, programs-in d t v s, empty-by-length d t v (members_in d t v s))
      (go (from_str (name_in d v s.name)) (eqb (length (members_in d t v s)) 0) (first_in (program_symbol_refusal (section_from d t v s)) (map (symbol_in d t v) (programs_among d t v (members_in d t v s)))))
    where
      go : (r : Result ProgramSection ProgramSectionError) (b : Bool) (q : Option Refusal)
          → or_else (of_number (section_from d t v s) (section_number r)) (or_else (of_section 9 (section_from d t v s) b) q)
          ≡ cond (is_err r) (named 8) (cond b (named 9) q)
      go (Err ProgramSectionError.InvalidProgramSection) b q = refl
      go (Ok w) true q = refl
      go (Ok w) false q = refl
