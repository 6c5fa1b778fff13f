use Rattle.std.proofs.Common.{◌≢◌, ◌<◌, [], arith, refl, length, get_or, ap, sym, subst, ◌∙◌}
use Rattle.std.proofs.lemmas.List.{get_or-map, get_or-set_other, get_or_default}
use Rattle.sha2.specs.Sha256.{sha256}
use Rattle.merkle.specs.Jobs.{IsTextOf}
use Rattle.merkle.proofs.Placing.{all-done, all-kept, blank, one-done}
use Rattle.merkle.proofs.places.give.Goals as goal

pub hash_by-requires : goal.hash_by-requires
hash_by-requires g c =
    let k = c.loop-k.k in
    let small : k < length c.args.jobs.now = c.loop-k-test.true in
    let here : k < length c.args.texts.now = omega (arith, c.requires.texts.len) in
    let job = c.loop-k.invariant.left k blank (omega arith) in
    let value = g.P.Places.hash c.args.places.now in
    let read = c.as_slice.ensures.value ∙ c.index-texts-k.is ∙ get_or_default c.args.texts.now k _ [] here in
    record {
      there = all-kept (g.P.Places.has c.args.places.now) c.args.jobs.now c.loop-k.jobs c.loop-k.invariant.done.places c.requires.there k blank (omega (arith, c.loop-k.auto.jobs));
      text = subst (λ bytes. IsTextOf (value (get_or c.loop-k.jobs k blank).place) bytes) (sym read)
          (subst (λ job. IsTextOf (value job.place) (get_or c.args.texts.now k [])) (sym job) (c.requires.texts.each k blank small));
      hash = ap (λ list. get_or list k []) c.requires.hashes ∙ get_or-map sha256 c.args.texts.now k [] [] here ∙ ap sha256 (sym read);
    }

pub loop-k-preserved : goal.loop-k-preserved
loop-k-preserved g c =
    let k = c.loop-k.k in
    let small : k < length c.loop-k.jobs = omega (arith, c.loop-k.auto.jobs, c.loop-k-test.true) in
    record {
      left = λ j d low. let ne : j ≢ k = omega arith in get_or-set_other c.loop-k.jobs k j _ d ne ∙ c.loop-k.invariant.left j d (omega arith);
      done = one-done (g.P.Places.hash c.args.places.now) c.args.jobs.now c.loop-k.jobs k _ blank small refl c.hash_by.ensures c.loop-k.invariant.done;
    }

pub returns : goal.returns
returns g c = all-done (g.P.Places.hash c.args.places.now) c.loop-k.k c.args.jobs.now c.loop-k.jobs (omega (arith, c.loop-k-test.false, c.loop-k.auto.jobs)) c.loop-k.invariant.done
