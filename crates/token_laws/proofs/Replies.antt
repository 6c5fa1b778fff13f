-- Replies and their numbers can be told apart by their text, which is of bytes.
use Rattle.std.proofs.Common.{◌≡◌, ◌⊎◌, inl, inr, ℕ, ◌+◌, ◌<◌, ◌≤◌, ◌^◌, List, [], ◌∷◌, ◌++◌, length, length-append, append_assoc, Option, Some, None, IfSome, refl, sym, ap, ◌∙◌, arith}
use Rattle.std.specs.List.{AllByRecursion, flat_map}
use Rattle.std.proofs.lemmas.List.Elements.{recursion_from_All}
use Rattle.std.specs.Prelude.{unwrap_or}
use Rattle.requests.specs.Replies.{brand_text}
use Rattle.requests.specs.declared.reply.Brand.{Brand}
use Rattle.requests.specs.declared.reply.Brand.TheVariants as brand
use Rattle.requests.specs.declared.reply.DeliveryReply.{DeliveryReply}
use Rattle.requests.specs.declared.reply.LineReply.{LineReply}
use Rattle.requests.specs.declared.reply.NewOrderReply.{NewOrderReply}
use Rattle.requests.specs.declared.reply.OrderStatusReply.{OrderStatusReply}
use Rattle.requests.specs.declared.reply.PaymentReply.{PaymentReply}
use Rattle.requests.specs.declared.reply.RequestRefusal.{RequestRefusal}
use Rattle.requests.specs.declared.reply.RequestRefusal.TheVariants as refusal
use Rattle.requests.specs.declared.reply.Reply.{Reply}
use Rattle.requests.specs.declared.reply.Reply.TheVariants as reply
use Rattle.requests.specs.declared.reply.ShownCredit.{ShownCredit}
use Rattle.requests.specs.declared.reply.ShownCredit.TheVariants as credit
use Rattle.requests.specs.declared.reply.ShownLine.{ShownLine}
use Rattle.requests.specs.declared.reply.ShownOrder.{ShownOrder}
use Rattle.requests.specs.declared.reply.StockLevelReply.{StockLevelReply}
use Rattle.requests.specs.declared.request.RequestKind.{RequestKind}
use Rattle.requests.specs.declared.request.RequestKind.TheVariants as kind
use Rattle.tpcc_model.specs.Tokens.{credit_bytes, kind_code, last_order_bytes, line_reply_bytes, new_order_bytes, order_or_zero, order_status_bytes, outcome_bytes, payment_bytes, refusal_status, replies_bytes, reply_bytes, shown_line_bytes, shown_order_bytes}
use Rattle.tpcc_rows.specs.Encodings.{bytes_16, bytes_32, bytes_64, short_text, signed_64}
use Rattle.tpcc_rows.specs.declared.id.TheConstants.{END_OF_NUMBERS}
use Rattle.tpcc_rows.proofs.Fields.{IsApart, byte, carriers, cents, moment_fits, moments, numbers_16, numbers_32, numbers_64, short_texts, stock_quantities}
use Rattle.tpcc_rows.proofs.Lengths.{length-bytes_64}
use Rattle.token_laws.specs.CoveredLimits.{AreBytes, IsDelivered, IsDeliveryReply, IsLineReply, IsNewOrderReply, IsOrderStatusReply, IsPaymentReply, IsReply, IsShownCredit, IsShownLine, IsShownOrder}
use Rattle.token_laws.proofs.Bytes.{bytes-16, bytes-32, bytes-64, bytes-moment, bytes-short, or_zero-small}
use Rattle.token_laws.proofs.Lists.{bytes-append, bytes-cons, bytes-flat_map, counted, no_bytes}

-- ---- parts of replies
brands : (a b : Brand) (xs ys : List ℕ) → brand_text a ++ xs ≡ brand_text b ++ ys → (a ≡ b) × (xs ≡ ys)
brands brand.Brand brand.Brand xs ys e = (refl, cc)
brands brand.Generic brand.Generic xs ys e = (refl, cc)
brands brand.Brand brand.Generic xs ys e = let h = byte e in absurd (omega (arith, h.0))
brands brand.Generic brand.Brand xs ys e = let h = byte e in absurd (omega (arith, h.0))

line_replies : IsApart IsLineReply line_reply_bytes
line_replies = record {
  apart = λ r s xs ys p q e.
      let flat = simp append_assoc at e in
      let a = stock_quantities.apart r.stock s.stock _ _ p.stock q.stock flat in
      let b = brands r.brand s.brand _ _ a.1 in
      let c = numbers_32.apart r.amount s.amount xs ys (omega (arith, p.amount)) (omega (arith, q.amount)) b.1 in
      (λ i. record { stock = a.0 i; brand = b.0 i; amount = c.0 i }, c.1);
}

shown_lines : IsApart IsShownLine shown_line_bytes
shown_lines = record {
  apart = λ r s xs ys p q e.
      let flat = simp append_assoc at e in
      let a = numbers_32.apart r.item s.item _ _ (omega (arith, p.item)) (omega (arith, q.item)) flat in
      let b = byte a.1 in
      let c = byte b.1 in
      let d = numbers_32.apart r.amount s.amount _ _ (omega (arith, p.amount)) (omega (arith, q.amount)) c.1 in
      let f = moments.apart r.delivery s.delivery xs ys (moment_fits r.delivery p.delivery) (moment_fits s.delivery q.delivery) d.1 in
      (λ i. record { item = a.0 i; supply = b.0 i; quantity = c.0 i; amount = d.0 i; delivery = f.0 i }, f.1);
}

shown_orders : IsApart IsShownOrder shown_order_bytes
shown_orders = record {
  apart = λ r s xs ys p q e.
      let flat = simp append_assoc at e in
      let a = numbers_32.apart r.order s.order _ _ (omega (arith, p.order)) (omega (arith, q.order)) flat in
      let b = numbers_64.apart r.entry s.entry _ _ (omega (arith, p.entry)) (omega (arith, q.entry)) a.1 in
      let c = byte b.1 in
      let d = byte c.1 in
      let carrier = carriers r.carrier s.carrier p.carrier q.carrier c.0 in
      let lines = counted shown_lines r.lines s.lines xs ys d.0 (recursion_from_All IsShownLine r.lines p.lines) (recursion_from_All IsShownLine s.lines q.lines) d.1 in
      (λ i. record { order = a.0 i; entry = b.0 i; carrier = carrier i; lines = lines.0 i }, lines.1);
}

last_orders : (a b : Option ShownOrder) (xs ys : List ℕ) → IfSome a IsShownOrder → IfSome b IsShownOrder → last_order_bytes a ++ xs ≡ last_order_bytes b ++ ys → (a ≡ b) × (xs ≡ ys)
last_orders None None xs ys p q e = let h = byte e in (refl, h.1)
last_orders (Some r) (Some s) xs ys p q e = let h = byte e in let o = shown_orders.apart r s xs ys p q h.1 in (λ i. Some (o.0 i), o.1)
last_orders None (Some s) xs ys p q e = let h = byte e in absurd (omega (arith, h.0))
last_orders (Some r) None xs ys p q e = let h = byte e in absurd (omega (arith, h.0))

credits : (a b : ShownCredit) (xs ys : List ℕ) → credit_bytes a ++ xs ≡ credit_bytes b ++ ys → (a ≡ b) × (xs ≡ ys)
credits credit.Good credit.Good xs ys e = (refl, cc)
credits (credit.Bad shown) (credit.Bad other) xs ys e = let g = byte e in let h = byte g.1 in let t = short_texts shown other xs ys h.1 in (λ i. credit.Bad (t.0 i), t.1)
credits credit.Good (credit.Bad other) xs ys e = let h = byte e in absurd (omega (arith, h.0))
credits (credit.Bad shown) credit.Good xs ys e = let h = byte e in absurd (omega (arith, h.0))

delivered_orders : IsApart IsDelivered order_or_zero
delivered_orders = record { apart = at }
  where
    at : (a b : Option ℕ) (xs ys : List ℕ) → IsDelivered a → IsDelivered b → order_or_zero a ++ xs ≡ order_or_zero b ++ ys → (a ≡ b) × (xs ≡ ys)
    at None None xs ys p q e = (refl, (numbers_32.apart 0 0 xs ys (omega arith) (omega arith) e).1)
    at (Some m) (Some n) xs ys p q e = let h = numbers_32.apart m n xs ys (omega (arith, p.1)) (omega (arith, q.1)) e in (λ i. Some (h.0 i), h.1)
    at None (Some n) xs ys p q e = let h = numbers_32.apart 0 n xs ys (omega arith) (omega (arith, q.1)) e in absurd (omega (arith, h.0, q.0))
    at (Some m) None xs ys p q e = let h = numbers_32.apart m 0 xs ys (omega (arith, p.1)) (omega arith) e in absurd (omega (arith, h.0, p.0))

-- ---- replies of one kind
new_orders : IsApart IsNewOrderReply new_order_bytes
new_orders = record {
  apart = λ r s xs ys p q e.
      let flat = simp append_assoc at e in
      let a = numbers_32.apart r.order s.order _ _ (omega (arith, p.order)) (omega (arith, q.order)) flat in
      let b = cents.apart r.total s.total _ _ p.total q.total a.1 in
      let c = byte b.1 in
      let lines = counted line_replies r.lines s.lines xs ys c.0 (recursion_from_All IsLineReply r.lines p.lines) (recursion_from_All IsLineReply s.lines q.lines) c.1 in
      (λ i. record { order = a.0 i; total = b.0 i; lines = lines.0 i }, lines.1);
}

payments : IsApart IsPaymentReply payment_bytes
payments = record {
  apart = λ r s xs ys p q e.
      let flat = simp append_assoc at e in
      let a = numbers_16.apart r.customer s.customer _ _ (omega (arith, p.customer)) (omega (arith, q.customer)) flat in
      let b = cents.apart r.balance s.balance _ _ p.balance q.balance a.1 in
      let c = credits r.credit s.credit xs ys b.1 in
      (λ i. record { customer = a.0 i; balance = b.0 i; credit = c.0 i }, c.1);
}

six_and_rest : (a b c d f g xs : List ℕ) → a ++ b ++ c ++ d ++ f ++ g ++ xs ≡ a ++ (b ++ (c ++ (d ++ (f ++ (g ++ xs)))))
six_and_rest a b c d f g xs = simp append_assoc

status_in_parts : (r : OrderStatusReply) (xs : List ℕ) → order_status_bytes r ++ xs
    ≡ bytes_16 r.customer ++ (short_text r.first ++ (short_text r.middle ++ (short_text r.last ++ (signed_64 r.balance ++ (last_order_bytes r.order ++ xs)))))
status_in_parts r xs = six_and_rest (bytes_16 r.customer) (short_text r.first) (short_text r.middle) (short_text r.last) (signed_64 r.balance) (last_order_bytes r.order) xs

order_statuses : IsApart IsOrderStatusReply order_status_bytes
order_statuses = record {
  apart = λ r s xs ys p q e.
      let flat = sym (status_in_parts r xs) ∙ e ∙ status_in_parts s ys in
      let a = numbers_16.apart r.customer s.customer _ _ (omega (arith, p.customer)) (omega (arith, q.customer)) flat in
      let b = short_texts r.first s.first _ _ a.1 in
      let c = short_texts r.middle s.middle _ _ b.1 in
      let d = short_texts r.last s.last _ _ c.1 in
      let f = cents.apart r.balance s.balance _ _ p.balance q.balance d.1 in
      let o = last_orders r.order s.order xs ys p.order q.order f.1 in
      (λ i. record { customer = a.0 i; first = b.0 i; middle = c.0 i; last = d.0 i; balance = f.0 i; order = o.0 i }, o.1);
}

deliveries : (r s : DeliveryReply) (xs ys : List ℕ) → IsDeliveryReply r → IsDeliveryReply s → flat_map order_or_zero r.orders ++ xs ≡ flat_map order_or_zero s.orders ++ ys → (r ≡ s) × (xs ≡ ys)
deliveries r s xs ys p q e = let o = counted delivered_orders r.orders s.orders xs ys (p.ten ∙ sym q.ten) (recursion_from_All IsDelivered r.orders p.orders) (recursion_from_All IsDelivered s.orders q.orders) e in (λ i. record { orders = o.0 i }, o.1)

stock_levels : (r s : StockLevelReply) (xs ys : List ℕ) → r.low_stock < 2 ^ 32 → s.low_stock < 2 ^ 32 → bytes_32 r.low_stock ++ xs ≡ bytes_32 s.low_stock ++ ys → (r ≡ s) × (xs ≡ ys)
stock_levels r s xs ys p q e = let n = numbers_32.apart r.low_stock s.low_stock xs ys p q e in (λ i. record { low_stock = n.0 i }, n.1)

kinds : (a b : RequestKind) → kind_code a ≡ kind_code b → a ≡ b
kinds kind.NewOrder kind.NewOrder e = refl
kinds kind.Payment kind.Payment e = refl
kinds kind.OrderStatus kind.OrderStatus e = refl
kinds kind.Delivery kind.Delivery e = refl
kinds kind.StockLevel kind.StockLevel e = refl
kinds a b e = absurd (omega (arith, e))

refusals : (a b : RequestRefusal) → refusal_status a ≡ refusal_status b → a ≡ b
refusals refusal.ItemNotValid refusal.ItemNotValid e = refl
refusals refusal.UnknownKey refusal.UnknownKey e = refl
refusals refusal.LimitReached refusal.LimitReached e = refl
refusals a b e = absurd (omega (arith, e))

not_done : (f : RequestRefusal) → refusal_status f ≡ 0 → ⊥
not_done refusal.ItemNotValid e = omega (arith, e)
not_done refusal.UnknownKey e = omega (arith, e)
not_done refusal.LimitReached e = omega (arith, e)

-- ---- replies
outcomes : (r s : Reply) (xs ys : List ℕ) → IsReply r → IsReply s → outcome_bytes r ++ xs ≡ outcome_bytes s ++ ys → (r ≡ s) × (xs ≡ ys)
outcomes (reply.NewOrder r) (reply.NewOrder s) xs ys p q e = let a = byte e in let b = byte a.1 in let h = new_orders.apart r s xs ys p q b.1 in (λ i. reply.NewOrder (h.0 i), h.1)
outcomes (reply.Payment r) (reply.Payment s) xs ys p q e = let a = byte e in let b = byte a.1 in let h = payments.apart r s xs ys p q b.1 in (λ i. reply.Payment (h.0 i), h.1)
outcomes (reply.OrderStatus r) (reply.OrderStatus s) xs ys p q e = let a = byte e in let b = byte a.1 in let h = order_statuses.apart r s xs ys p q b.1 in (λ i. reply.OrderStatus (h.0 i), h.1)
outcomes (reply.Delivery r) (reply.Delivery s) xs ys p q e = let a = byte e in let b = byte a.1 in let h = deliveries r s xs ys p q b.1 in (λ i. reply.Delivery (h.0 i), h.1)
outcomes (reply.StockLevel r) (reply.StockLevel s) xs ys p q e = let a = byte e in let b = byte a.1 in let h = stock_levels r s xs ys p q b.1 in (λ i. reply.StockLevel (h.0 i), h.1)
outcomes (reply.Refused k f) (reply.Refused l g) xs ys p q e =
    let a = byte e in
    let b = byte a.1 in
    let same = kinds k l a.0 in
    let why = refusals f g b.0 in
    (λ i. reply.Refused (same i) (why i), b.1)
outcomes (reply.Refused k f) s xs ys p q e = let a = byte e in let b = byte a.1 in absurd (not_done f b.0)
outcomes r (reply.Refused l g) xs ys p q e = let a = byte e in let b = byte a.1 in absurd (not_done g (sym b.0))
outcomes r s xs ys p q e = let a = byte e in absurd (omega (arith, a.0))

-- ---- a batch's replies
-- that each number fits, and each reply is within its limits
numbered_apart : (m n : ℕ) (r s : Reply) (xs ys : List ℕ) → m < 2 ^ 64 → n < 2 ^ 64 → IsReply r → IsReply s → reply_bytes m r ++ xs ≡ reply_bytes n s ++ ys → (m ≡ n) × (r ≡ s) × (xs ≡ ys)
unfolding reply_bytes
numbered_apart m n r s xs ys small low p q e =
    let flat = sym (append_assoc (bytes_64 m) (outcome_bytes r) xs) ∙ e ∙ append_assoc (bytes_64 n) (outcome_bytes s) ys in
    let number = numbers_64.apart m n _ _ small low flat in
    let outcome = outcomes r s xs ys p q number.1 in
    (number.0, outcome.0, outcome.1)

some_bytes : (n : ℕ) (r : Reply) (xs : List ℕ) → 0 < length (reply_bytes n r ++ xs)
unfolding reply_bytes
some_bytes n r xs = omega (arith, length-append (bytes_64 n ++ outcome_bytes r) xs, length-append (bytes_64 n) (outcome_bytes r), length-bytes_64 n)

-- replies of one text are the same, and where there are any, so is the number of the first
pub replies_apart : (m n : ℕ) (rs ss : List Reply) → m + length rs ≤ END_OF_NUMBERS → n + length ss ≤ END_OF_NUMBERS → AllByRecursion IsReply rs → AllByRecursion IsReply ss
    → replies_bytes m rs ≡ replies_bytes n ss → (rs ≡ ss) × ((rs ≡ []) ⊎ (m ≡ n))
replies_apart m n [] [] small low p q e = (refl, inl refl)
replies_apart m n [] (s ∷ ss) small low p q e = absurd (omega (arith, some_bytes n s (replies_bytes (n + 1) ss), ap length e))
replies_apart m n (r ∷ rs) [] small low p q e = absurd (omega (arith, some_bytes m r (replies_bytes (m + 1) rs), ap length e))
replies_apart m n (r ∷ rs) (s ∷ ss) small low p q e =
    let one = numbered_apart m n r s (replies_bytes (m + 1) rs) (replies_bytes (n + 1) ss) (omega (arith, small)) (omega (arith, low)) p.0 q.0 e in
    let rest = replies_apart (m + 1) (n + 1) rs ss (omega (arith, small)) (omega (arith, low)) p.1 q.1 one.2 in
    (λ i. one.1 i ∷ rest.0 i, inr one.0)

-- ---- bytes
line-bytes : (line : LineReply) → IsLineReply line → AreBytes (line_reply_bytes line)
line-bytes line h = bytes-append (bytes-append (bytes-32 _) (brand-bytes line.brand)) (bytes-32 line.amount)
  where
    brand-bytes : (b : Brand) → AreBytes (brand_text b)
    brand-bytes brand.Brand = bytes-cons (omega arith) no_bytes
    brand-bytes brand.Generic = bytes-cons (omega arith) no_bytes

new_order-bytes : (r : NewOrderReply) → IsNewOrderReply r → AreBytes (new_order_bytes r)
new_order-bytes r h =
    let few : length r.lines < 256 = omega (arith, h.count) in
    bytes-append (bytes-append (bytes-32 r.order) (bytes-64 _)) (bytes-cons few (bytes-flat_map IsLineReply line_reply_bytes line-bytes r.lines (recursion_from_All IsLineReply r.lines h.lines)))

credit-bytes : (c : ShownCredit) → IsShownCredit c → AreBytes (credit_bytes c)
credit-bytes credit.Good h = bytes-cons (omega arith) (bytes-cons (omega arith) no_bytes)
credit-bytes (credit.Bad shown) h = bytes-cons (omega arith) (bytes-cons (omega arith) (bytes-short 200 shown (omega arith) h))

payment-bytes : (r : PaymentReply) → IsPaymentReply r → AreBytes (payment_bytes r)
payment-bytes r h = bytes-append (bytes-append (bytes-16 r.customer) (bytes-64 _)) (credit-bytes r.credit h.credit)

shown_line-bytes : (line : ShownLine) → IsShownLine line → AreBytes (shown_line_bytes line)
shown_line-bytes line h =
    let near : line.supply < 256 = omega (arith, h.supply) in
    let few : line.quantity < 256 = omega (arith, h.quantity) in
    bytes-append (bytes-32 line.item) (bytes-cons near (bytes-cons few (bytes-append (bytes-32 line.amount) (bytes-moment line.delivery))))

shown_order-bytes : (o : ShownOrder) → IsShownOrder o → AreBytes (shown_order_bytes o)
shown_order-bytes o h =
    let few : length o.lines < 256 = omega (arith, h.count) in
    let lines = bytes-flat_map IsShownLine shown_line_bytes shown_line-bytes o.lines (recursion_from_All IsShownLine o.lines h.lines) in
    bytes-append (bytes-append (bytes-32 o.order) (bytes-64 o.entry)) (bytes-cons (or_zero-small o.carrier h.carrier) (bytes-cons few lines))

last_order-bytes : (o : Option ShownOrder) → IfSome o IsShownOrder → AreBytes (last_order_bytes o)
last_order-bytes None h = bytes-cons (omega arith) no_bytes
last_order-bytes (Some o) h = bytes-cons (omega arith) (shown_order-bytes o h)

order_status-bytes : (r : OrderStatusReply) → IsOrderStatusReply r → AreBytes (order_status_bytes r)
order_status-bytes r h =
    let names = bytes-append (bytes-append (bytes-append (bytes-16 r.customer) (bytes-short 16 r.first (omega arith) h.first)) (bytes-short 2 r.middle (omega arith) h.middle)) (bytes-short 16 r.last (omega arith) h.last) in
    bytes-append (bytes-append names (bytes-64 _)) (last_order-bytes r.order h.order)

kind-small : (k : RequestKind) → kind_code k < 256
kind-small kind.NewOrder = omega arith
kind-small kind.Payment = omega arith
kind-small kind.OrderStatus = omega arith
kind-small kind.Delivery = omega arith
kind-small kind.StockLevel = omega arith

refusal-small : (f : RequestRefusal) → refusal_status f < 256
refusal-small refusal.ItemNotValid = omega arith
refusal-small refusal.UnknownKey = omega arith
refusal-small refusal.LimitReached = omega arith

-- behind its kind, and 0 for what was done
done-bytes : {xs : List ℕ} (k : RequestKind) → AreBytes xs → AreBytes (kind_code k ∷ 0 ∷ xs)
done-bytes k are = bytes-cons (kind-small k) (bytes-cons (omega arith) are)

outcome-bytes : (r : Reply) → IsReply r → AreBytes (outcome_bytes r)
outcome-bytes (reply.NewOrder r) h = done-bytes kind.NewOrder (new_order-bytes r h)
outcome-bytes (reply.Payment r) h = done-bytes kind.Payment (payment-bytes r h)
outcome-bytes (reply.OrderStatus r) h = done-bytes kind.OrderStatus (order_status-bytes r h)
outcome-bytes (reply.Delivery r) h = done-bytes kind.Delivery (bytes-flat_map IsDelivered order_or_zero (λ o is. bytes-32 (unwrap_or o 0)) r.orders (recursion_from_All IsDelivered r.orders h.orders))
outcome-bytes (reply.StockLevel r) h = done-bytes kind.StockLevel (bytes-32 r.low_stock)
outcome-bytes (reply.Refused k f) h = bytes-cons (kind-small k) (bytes-cons (refusal-small f) no_bytes)

reply-bytes : (n : ℕ) (r : Reply) → IsReply r → AreBytes (reply_bytes n r)
unfolding reply_bytes
reply-bytes n r h = bytes-append (bytes-64 n) (outcome-bytes r h)

pub replies-bytes : (n : ℕ) (rs : List Reply) → AllByRecursion IsReply rs → AreBytes (replies_bytes n rs)
replies-bytes n [] h = no_bytes
replies-bytes n (r ∷ rs) h = bytes-append (reply-bytes n r h.0) (replies-bytes (n + 1) rs h.1)
