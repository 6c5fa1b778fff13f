use Rattle.image_checks.proofs.ConditionLemmas.{same_conditions}
use Rattle.image_checks.proofs.districts.conditions_at.Goals as goal

pub returns-in-DistrictNext-DistrictNext : goal.returns-in-DistrictNext-DistrictNext
returns-in-DistrictNext-DistrictNext c = λ rows are.
    let totals = c.totals_at-totals.ensures rows are in
    rw (c.in-DistrictNext-DistrictNext.is-0, c.in-DistrictNext-DistrictNext.is-1) (
    same_conditions _ _ (rw totals at c.goes_before.ensures) (rw totals at c.has_no_gap.ensures) (rw totals at c.has_all_lines.ensures)
    )
