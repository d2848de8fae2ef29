use mathlib.Core.Path.{◌≡◌}
use mathlib.Core.Bool.{◌||◌}
use lib.ListN.{drop}
use Rattle.lists.specs.Tab.{tab}
use Rattle.records.specs.Records.{deposit_section}
use Rattle.deposit_rules.specs.Rules.{ruled, some_of, section_ok_at, is_btf, sections_ok, some_btf}
use Rattle.deposit_rules.proofs.tables.Tables.check_sections.Given as goal

abbrev pub invariant-loop-i : goal.invariant-loop-i
invariant-loop-i l =
    let d = l.self.deposit.bytes.now in
    let h = l.self.deposit.head in
    (sections_ok d h ≡ ruled (λ r. r.index.0) (section_ok_at d h) l.last (drop l.i (tab (deposit_section d) h.sections)))
    × (some_btf d h ≡ (l.btf || some_of (is_btf d h) (drop l.i (tab (deposit_section d) h.sections))))
