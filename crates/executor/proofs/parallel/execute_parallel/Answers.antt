use Rattle.std.proofs.Common.{◌≡◌, ◌∙◌, ap, sym}
use Rattle.serializability.specs.Levels as levels
use Rattle.profiles.specs.Declarations.{declared}
use Rattle.tpcc_model.specs.Database.{database}
use Rattle.tpcc_model.specs.Machine.{tpcc}
use Rattle.tpcc_model.specs.Serial.{batch_replies}
use Rattle.executor.specs.LevelRuns.{IsCutBySome, declared_footprints, strays}
use Rattle.executor.specs.Chains.{state_of}
use Rattle.executor.proofs.LevelResults.{cut_levels, none_empty, rows_are, same_replies, slots_are, stray_up, strays_are}
use Rattle.executor.proofs.parallel.execute_parallel.Goals as goal

pub execute_declared-requires-clause-declared : goal.execute_declared-requires-clause-declared
execute_declared-requires-clause-declared g c κs lives =
    let cards = c.args.catalog.now in
    let state = state_of c.args.store.now.rows c.args.next.now.stamp in
    c.as_slice.ensures.value ∙ c.in_ok-footprints.ensures.declared c.requires.sound.database ∙ ap (declared (database cards state.rows)) c.as_slice-requests.ensures

pub returns-in_err-replies-clause-err : goal.returns-in_err-replies-clause-err
returns-in_err-replies-clause-err g c =
    let cards = c.args.catalog.now in
    let state = state_of c.args.store.now.rows c.args.next.now.stamp in
    let batch = c.args.next.now.batch.now in
    let told : c.as_slice.result.now ≡ declared_footprints cards state batch = c.as_slice.ensures.value ∙ c.in_ok-footprints.ensures.declared c.requires.sound.database ∙ ap (declared (database cards state.rows)) c.as_slice-requests.ensures in
    let by : IsCutBySome c.as_slice.result.now c.in-Some.cut = rw c.in-Some.is at c.in_ok-cut.ensures.cut in
    stray_up (levels.strays (tpcc cards batch.moment) state.rows (cut_levels cards state batch c.as_slice.result.now told c.in-Some.cut by c.requires.sound.database c.keep_within.ensures)) (strays cards state batch) c.in_err-replies.field-0.0 c.from_residual-in_err-replies.result
    (λ strayed. sym (strays_are cards state batch c.as_slice.result.now told c.in-Some.cut by c.requires.sound.database c.keep_within.ensures c.strays_in_turn.ensures) ∙ strayed)
    c.in_err-replies.ensures.err c.from_residual-in_err-replies.ensures.1

pub in_order-requires : goal.in_order-requires
in_order-requires g c =
    let cards = c.args.catalog.now in
    let state = state_of c.args.store.now.rows c.args.next.now.stamp in
    let batch = c.args.next.now.batch.now in
    let told : c.as_slice.result.now ≡ declared_footprints cards state batch = c.as_slice.ensures.value ∙ c.in_ok-footprints.ensures.declared c.requires.sound.database ∙ ap (declared (database cards state.rows)) c.as_slice-requests.ensures in
    let by : IsCutBySome c.as_slice.result.now c.in-Some.cut = rw c.in-Some.is at c.in_ok-cut.ensures.cut in
    none_empty c.in_ok-replies.replies (batch_replies cards state batch)
    (slots_are cards state batch c.as_slice.result.now told c.in-Some.cut by c.requires.sound.database c.keep_within.ensures c.declared_levels.ensures c.in_ok-replies.ensures.within c.in_ok-replies.replies c.in_ok-replies.ensures.size c.in_ok-replies.ensures.replies)

pub returns-clause-strayed : goal.returns-clause-strayed
returns-clause-strayed g c =
    let cards = c.args.catalog.now in
    let state = state_of c.args.store.now.rows c.args.next.now.stamp in
    let batch = c.args.next.now.batch.now in
    let told : c.as_slice.result.now ≡ declared_footprints cards state batch = c.as_slice.ensures.value ∙ c.in_ok-footprints.ensures.declared c.requires.sound.database ∙ ap (declared (database cards state.rows)) c.as_slice-requests.ensures in
    let by : IsCutBySome c.as_slice.result.now c.in-Some.cut = rw c.in-Some.is at c.in_ok-cut.ensures.cut in
    sym c.in_ok-replies.ensures.within ∙ strays_are cards state batch c.as_slice.result.now told c.in-Some.cut by c.requires.sound.database c.keep_within.ensures c.strays_in_turn.ensures

pub returns-clause-replies : goal.returns-clause-replies
returns-clause-replies g c =
    let cards = c.args.catalog.now in
    let state = state_of c.args.store.now.rows c.args.next.now.stamp in
    let batch = c.args.next.now.batch.now in
    let told : c.as_slice.result.now ≡ declared_footprints cards state batch = c.as_slice.ensures.value ∙ c.in_ok-footprints.ensures.declared c.requires.sound.database ∙ ap (declared (database cards state.rows)) c.as_slice-requests.ensures in
    let by : IsCutBySome c.as_slice.result.now c.in-Some.cut = rw c.in-Some.is at c.in_ok-cut.ensures.cut in
    same_replies c.in_order.result.items (batch_replies cards state batch)
    (c.in_order.ensures ∙ slots_are cards state batch c.as_slice.result.now told c.in-Some.cut by c.requires.sound.database c.keep_within.ensures c.declared_levels.ensures c.in_ok-replies.ensures.within c.in_ok-replies.replies c.in_ok-replies.ensures.size c.in_ok-replies.ensures.replies)

pub returns-clause-rows : goal.returns-clause-rows
returns-clause-rows g c =
    let cards = c.args.catalog.now in
    let state = state_of c.args.store.now.rows c.args.next.now.stamp in
    let batch = c.args.next.now.batch.now in
    let told : c.as_slice.result.now ≡ declared_footprints cards state batch = c.as_slice.ensures.value ∙ c.in_ok-footprints.ensures.declared c.requires.sound.database ∙ ap (declared (database cards state.rows)) c.as_slice-requests.ensures in
    let by : IsCutBySome c.as_slice.result.now c.in-Some.cut = rw c.in-Some.is at c.in_ok-cut.ensures.cut in
    c.in_ok-replies.ensures.rows ∙ rows_are cards state batch c.as_slice.result.now told c.in-Some.cut by c.requires.sound.database c.keep_within.ensures c.declared_levels.ensures c.in_ok-replies.ensures.within
