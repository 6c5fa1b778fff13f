-- The executor's refusals, as they are reported.
use Rattle.std.specs.Prelude.{ℕ, List, codes}
use Rattle.executor.specs.declared.refusal.Refusal.{Refusal}
use Rattle.executor.specs.declared.refusal.Refusal.TheVariants as refusal

abbrev pub refusal_code : Refusal → ℕ
refusal_code refusal.Memory = 1
refusal_code refusal.BatchTooLong = 2
refusal_code refusal.PointsFull = 3
refusal_code refusal.NoSuchPoint = 4
refusal_code refusal.NumbersExhausted = 5

abbrev pub refusal_name : Refusal → List ℕ
refusal_name refusal.Memory = codes "Memory"
refusal_name refusal.BatchTooLong = codes "BatchTooLong"
refusal_name refusal.PointsFull = codes "PointsFull"
refusal_name refusal.NoSuchPoint = codes "NoSuchPoint"
refusal_name refusal.NumbersExhausted = codes "NumbersExhausted"
