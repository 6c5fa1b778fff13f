use Rattle.std.proofs.Common.{slice_get, Some, refl, sym, ap, ◌∙◌}
use Rattle.std.proofs.lemmas.Option.{slice_get-get_or, slice_get_past}
use Rattle.std.specs.Prelude.{option_map}
use Rattle.tables.proofs.Parted.{entries-of}
use Rattle.tables.proofs.queue.RankQueue.nth.Goals.{In-Some}
use Rattle.tables.proofs.queue.RankQueue.nth.Goals as goal

pub returns-in-Some : goal.returns-in-Some
returns-in-Some c =
    let at = c.in-Some.ensures.item.3 in
    let entry = c.in-Some.field-0.now in
    sym (ap (λ es. option_map (λ e. e.0) (slice_get es c.args.n)) (sym (entries-of _ c.self.inside.entries.items _ refl c.self.invariant c.self.view_is))
    ∙ ap (option_map (λ e. e.0)) (slice_get-get_or c.self.inside.entries.items c.args.n entry at.0)
    ∙ ap (λ o. option_map (λ e. e.0) o) (ap (λ e. Some e) (sym (at.1 entry))))

pub returns-in-None : goal.returns-in-None
returns-in-None c =
    sym (ap (λ es. option_map (λ e. e.0) (slice_get es c.args.n)) (sym (entries-of _ c.self.inside.entries.items _ refl c.self.invariant c.self.view_is))
    ∙ ap (option_map (λ e. e.0)) (slice_get_past c.self.inside.entries.items c.args.n c.in-None.ensures.item.3))
