-- A step on the rows that a view lends, where its touch is within the view.
use Rattle.std.proofs.Common.{◌≡◌, ℕ, Bool, true, false, Result, Ok, Err, refl, sym, ap, subst, ◌∙◌}
use Rattle.catalog.specs.CardMap.{Cards}
use Rattle.requests.specs.declared.reply.Reply.{Reply}
use Rattle.requests.specs.declared.request.Request.{Request}
use Rattle.tpcc_rows.specs.RowMap.{Changes}
use Rattle.tpcc_model.specs.Database.{Database, database}
use Rattle.tpcc_model.specs.Steps.{StepOutcome, step}
use Rattle.tpcc_model.specs.Touches.{Agree, touch}
use Rattle.worker_rows.specs.Views.{View, covers}
use Rattle.transactions.specs.Lending.{lent}
use Rattle.transactions.specs.Outcomes.{Executes, IsOutcome}
use Rattle.transactions.specs.declared.stop.Stop.{Stop}
use Rattle.transactions.specs.declared.stop.Stop.TheVariants as stop
use Rattle.transactions.proofs.Covering.{covered_reads}
use Rattle.tpcc_laws.proofs.Framing.{step_frames}
use Rattle.transactions.proofs.Lending.{lent_agree}

module _ (view : View) (cards : Cards) (q : Request) where
  abbrev whole : Database
  whole = database cards view.rows

  abbrev part : Database
  part = database cards (lent view)

  agrees : covers view (touch part q) ≡ true → Agree (lent view) view.rows (touch part q).reads
  agrees within = lent_agree view (touch part q).reads (covered_reads view (touch part q) within)

  -- the touch is then the same, and so is the step
  pub touch_within : covers view (touch part q) ≡ true → covers view (touch whole q) ≡ true
  touch_within within = ap (covers view) (step_frames.same_touch cards (lent view) view.rows q (agrees within)) ∙ within

  pub step_within : (number moment : ℕ) → covers view (touch part q) ≡ true → step whole q number moment ≡ step part q number moment
  step_within number moment within = step_frames.same_step cards (lent view) view.rows q number moment (agrees within)

  -- and where it isn't within the view, no more is that on all rows
  pub touch_strays : covers view (touch part q) ≡ false → covers view (touch whole q) ≡ false
  touch_strays strays = at (covers view (touch whole q)) refl
    where
      back : covers view (touch whole q) ≡ true → Agree view.rows (lent view) (touch whole q).reads
      back within k g is has = sym (lent_agree view (touch whole q).reads (covered_reads view (touch whole q) within) k g is has)

      at : (b : Bool) → covers view (touch whole q) ≡ b → b ≡ false
      at false e = refl
      at true e =
          let same = step_frames.same_touch cards view.rows (lent view) q (back e) in
          let no : true ≡ false = sym e ∙ sym (ap (covers view) same) ∙ strays in no

  -- so what is executed on the rows that are lent is executed on all of them
  pub executes_within : (number moment : ℕ) (result : Result (Reply × Changes) Stop) → Executes (covers view (touch part q)) (step part q number moment) result → Executes (covers view (touch whole q)) (step whole q number moment) result
  executes_within number moment (Ok pair) (within, is) =
      (touch_within within, subst (λ (o : StepOutcome). IsOutcome o pair) (sym (step_within number moment within)) is)
  executes_within number moment (Err stop.Strayed) strays = touch_strays strays
  executes_within number moment (Err stop.Memory) refused = refused
