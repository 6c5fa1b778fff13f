-- The choice of a customer (TPC-C clauses 2.5.1.2 and 2.6.1.2).
use Rattle.std.specs.Prelude.{ℕ, Option, Some}
use Rattle.catalog.specs.CardMap.{Cards}
use Rattle.catalog.specs.LastNames.{customer_by_last}
use Rattle.requests.specs.declared.request.CustomerChoice.{CustomerChoice}
use Rattle.requests.specs.declared.request.CustomerChoice.TheVariants as choice

-- the number of the customer of the district that a request chooses
abbrev pub chosen_customer : Cards → ℕ → ℕ → CustomerChoice → Option ℕ
chosen_customer cards w d (choice.Number c) = Some c
chosen_customer cards w d (choice.LastName last) = customer_by_last cards w d last
