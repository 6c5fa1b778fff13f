use Rattle.std.proofs.Common.{◌∷◌, [], List}
use Rattle.std.specs.List.{All, AllByRecursion}
use Rattle.std.proofs.lemmas.List.Elements.{All-head, All-tail}
use Rattle.tpcc_rows.specs.Limits.{IsBetween}
use Rattle.requests.specs.Lines.{IsReadLine}
use Rattle.requests.specs.Requests.{IsReadRequest}
use Rattle.requests.specs.declared.request.OrderedLine.{OrderedLine}
use Rattle.requests.specs.declared.request.Request.{Request}
use Rattle.requests.specs.declared.request.Request.TheVariants as request
use Rattle.transactions.specs.Requests.{IsRequest}
use Rattle.executor.proofs.limits.requests_within.Goals as goal

quantities : (lines : List OrderedLine) → All IsReadLine lines → AllByRecursion (λ line. IsBetween 1 10 line.quantity) lines
quantities [] all = tt
quantities (line ∷ lines) all = ((All-head IsReadLine line lines all).quantity, quantities lines (All-tail IsReadLine line lines all))

is_request : (asked : Request) → IsReadRequest asked → IsRequest asked
is_request (request.NewOrder p) is = record { lines = is.count; quantities = quantities p.lines is.lines }
is_request (request.Payment p) is = is.amount
is_request (request.OrderStatus p) is = tt
is_request (request.Delivery p) is = is.carrier
is_request (request.StockLevel p) is = tt

pub returns : goal.returns
returns c = λ k d within. is_request _ (c.are_within.ensures k d within)
