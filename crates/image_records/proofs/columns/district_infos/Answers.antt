use Rattle.std.proofs.Common.{◌≡◌, ◌∙◌, ◌+◌, ◌-◌, ◌++◌, ◌∷◌, ℕ, List, [], ap, arith, take, Ok, sym}
use Rattle.std.proofs.lemmas.List.{length-set, take_all, take_more_set}
use Rattle.csv.specs.Records.{fields_of}
use Rattle.image_records.proofs.Texts.{read_fault, text_more, text_refused, texts_after, texts_begin, texts_end}
use Rattle.image_records.proofs.columns.district_infos.Goals as goal

pub loop-place-init : goal.loop-place-init
loop-place-init c =
    let fields = fields_of c.args.fields.now in
    let here : c.args.first ≡ c.args.first + 0 = omega arith in
    record {
      within = omega arith;
      ten = grind arith;
      all = texts_begin fields c.args.first 10 ∙ ap (λ i. texts_after [] fields i 10) here;
    }

pub returns-in_err-info : goal.returns-in_err-info
returns-in_err-info c =
    let more = c.loop-place-test.true in
    read_fault _ _ _ (c.loop-place.invariant.all ∙ text_refused _ _ _ _ (10 - (c.loop-place.place + 1)) _ (omega (arith, more)) (sym c.in_err-info.ensures)) c.from_residual.ensures.1

pub loop-place-preserved : goal.loop-place-preserved
loop-place-preserved c =
    let fields = fields_of c.args.fields.now in
    let place = c.loop-place.place in
    let infos = c.loop-place.infos in
    let more = c.loop-place-test.true in
    let rest = 10 - (place + 1) in
    let grown : List (List ℕ) = take place infos ++ c.in_ok-info.info ∷ [] in
    let next : c.args.first + place + 1 ≡ c.args.first + (place + 1) = omega arith in
    record {
      within = omega (arith, more);
      ten = length-set infos place c.in_ok-info.info ∙ c.loop-place.invariant.ten;
      all =
          c.loop-place.invariant.all
          ∙ text_more _ _ _ _ rest _ (omega (arith, more)) (sym c.in_ok-info.ensures)
          ∙ ap (λ i. texts_after grown fields i rest) next
          ∙ ap (λ so_far. texts_after so_far fields (c.args.first + (place + 1)) rest) (sym (take_more_set infos place _ (omega (arith, more, c.loop-place.invariant.ten))));
    }

pub returns : goal.returns
returns c =
    let kept = c.loop-place.invariant in
    let over = c.loop-place-test.false in
    kept.all
    ∙ texts_end _ _ _ _ (omega (arith, over))
    ∙ ap Ok (take_all c.loop-place.place c.loop-place.infos (omega (arith, over, kept.ten)) ∙ sym c.in_ok-new.ensures)
