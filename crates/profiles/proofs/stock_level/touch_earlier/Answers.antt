use Rattle.std.proofs.Common.{rules, ◌≡◌, ◌-◌, suc, sym, ap, ◌∙◌, arith}
use Rattle.serializability.specs.Footprints.{joined}
use Rattle.profiles.specs.Earlier.{before, last_order_of}
use Rattle.profiles.proofs.Joining.{joined-untouched}
use Rattle.profiles.proofs.Walks.{last-most, length-before, nearest, nearest_below, nearest_is_order, nearest_known, nearest_touched, none_left}
use Rattle.profiles.proofs.stock_level.touch_earlier.Goals.{in-NewOrder+in_ok-touch_order, in_default}
use Rattle.profiles.proofs.stock_level.touch_earlier.Goals as goal

pub request-request-requires : goal.request-request-requires
request-request-requires c =
    let (n, within, is, whole) = c.loop-next.invariant in
    let some = c.loop-next-test.true in
    let m = c.loop-next.next - 1 in
    let last : suc m ≡ last_order_of c.args.p.now.warehouse c.args.p.now.district (before c.args.batch.now.requests.now n) = (let e : suc m ≡ c.loop-next.next = omega (arith, some) in e ∙ is) in
    let below = (nearest c.args.catalog.now c.args.p.now c.args.batch.now.requests.now n m within last).below in
    omega (arith, below, within)

pub loop-next-smaller : goal.loop-next-smaller
loop-next-smaller c =
    let (n, within, is, whole) = c.loop-next.invariant in
    let some = c.loop-next-test.true in
    let m = c.loop-next.next - 1 in
    let p = c.args.p.now in
    let requests = c.args.batch.now.requests.now in
    let last : suc m ≡ last_order_of p.warehouse p.district (before requests n) = (let e : suc m ≡ c.loop-next.next = omega (arith, some) in e ∙ is) in
    let below = nearest_below c.args.catalog.now p requests n m within last c.request-request.result.now c.request-request.ensures in
    let known : c.known-next.result ≡ last_order_of p.warehouse p.district (before requests m) = c.known-next.ensures ∙ nearest_known c.args.catalog.now p requests n m within last c.request-request.result.now c.request-request.ensures in
    let most = last-most p.warehouse p.district (before requests m) in
    let long = length-before requests m (omega (arith, below, within)) in
    omega (arith, some, known, most, long)

pub loop-next-preserved : goal.loop-next-preserved
loop-next-preserved c =
    let (n, within, is, whole) = c.loop-next.invariant in
    let some = c.loop-next-test.true in
    let m = c.loop-next.next - 1 in
    let cards = c.args.catalog.now in
    let p = c.args.p.now in
    let requests = c.args.batch.now.requests.now in
    let q = c.request-request.result.now in
    let there = c.request-request.ensures in
    let last : suc m ≡ last_order_of p.warehouse p.district (before requests n) = (let e : suc m ≡ c.loop-next.next = omega (arith, some) in e ∙ is) in
    let below = nearest_below cards p requests n m within last q there in (
      m,
      omega (arith, below, within),
      c.known-next.ensures ∙ nearest_known cards p requests n m within last q there,
      elim c.match-request.branch [
        | in-NewOrder+in_ok-touch_order w ↦
            nearest_touched cards p requests n m within last q there w.in-NewOrder.order w.in-NewOrder.is c.loop-next.footprint c.match-request.footprint _ (w.footprint-is ∙ w.in_ok-touch_order.ensures) whole
        | in_default w ↦ (let order = nearest_is_order cards p requests n m within last q there in let no : ⊥ = search (rules, order) in absurd no)
      ],
    )

pub returns : goal.returns
returns c =
    let (n, within, is, whole) = c.loop-next.invariant in
    let end = c.loop-next-test.false in
    let cards = c.args.catalog.now in
    let p = c.args.p.now in
    let none : last_order_of p.warehouse p.district (before c.args.batch.now.requests.now n) ≡ 0 = (let z : c.loop-next.next ≡ 0 = omega (arith, end) in sym is ∙ z) in
    sym (ap (joined c.loop-next.footprint) (none_left cards p (before c.args.batch.now.requests.now n) none) ∙ joined-untouched c.loop-next.footprint) ∙ whole
