-- Records that were read.
use Rattle.std.specs.Prelude.{List, ◌∷◌, ◌++◌, []}
use Rattle.std.specs.List.{AllByRecursion}
use Rattle.records.specs.Layout.{IsWritable}
use Rattle.records.specs.Stored.{Record}
use Rattle.device.specs.Regularity.{IsRegularRecord}
use Rattle.device.proofs.Regular as regular
use Rattle.device.proofs.SoundLists as lists

pub writable : (r : Record) → IsWritable r → IsRegularRecord r
writable r w = regular.writable r w

pub all_more : {A : Type 0} (P : A → Type 0) (xs : List A) (x : A) → AllByRecursion P xs → P x → AllByRecursion P (xs ++ x ∷ [])
all_more P xs x h p = lists.all_more P xs x h p
