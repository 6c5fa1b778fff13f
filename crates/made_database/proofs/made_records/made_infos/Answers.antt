use Rattle.std.proofs.Common.{◌≡◌, ◌∙◌, ◌<◌, ◌++◌, ◌∷◌, [], ap, arith, length, map, rules, slice_index, sym, take}
use Rattle.std.proofs.lemmas.List.{length-set, map_more, take_more_set}
use Rattle.tpcc_rows.specs.Limits.{ten}
use Rattle.made_database.specs.Made.{made_info}
use Rattle.made_database.proofs.made_records.made_infos.Goals as goal

pub loop-place-preserved : goal.loop-place-preserved
loop-place-preserved c =
    let kept = c.loop-place.invariant in
    let place = c.loop-place.place in
    let more = c.loop-place-test.true in
    let info = c.made_info.result in
    let there : place < length ten = omega (arith, more) in
    let is : info ≡ made_info (slice_index ten place) = search rules in
    record {
      within = omega (arith, more);
      count = length-set c.loop-place.infos place info ∙ kept.count;
      are = kept.are;
      made =
          take_more_set c.loop-place.infos place info (omega (arith, more, kept.count))
          ∙ ap (λ texts. texts ++ info ∷ []) kept.made
          ∙ ap (λ text. map made_info (take place ten) ++ text ∷ []) is
          ∙ sym (map_more made_info ten place 0 there);
    }
