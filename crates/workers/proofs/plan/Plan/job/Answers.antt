use Rattle.std.proofs.Common.{rules, ◌≡◌, ◌+◌, get_or, ap, ◌∙◌}
use Rattle.workers.proofs.Jobs.{job_there}
use Rattle.workers.proofs.plan.Plan.job.Goals as goal

pub returns-clause-job : goal.returns-clause-job
returns-clause-job c =
    let plan = c.args.self.now in
    let place = c.args.place in
    let numbered : c.unwrap.result ≡ plan.first + place = search rules in
    let request = c.index-as_slice-place.is ∙ ap (λ requests. get_or requests place c.index-as_slice-place.result) c.as_slice.ensures in
    let footprints = plan.footprints.now in
    let declared = get_or footprints place c.index-self-place.result in
    job_there plan.first place c.unwrap.result plan.batch.now.requests footprints c.index-as_slice-place.result declared plan.each c.requires numbered request (ap (get_or footprints place) c.index-self-place.is)
