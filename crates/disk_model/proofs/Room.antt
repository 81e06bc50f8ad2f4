-- Room that a disk in memory makes.
use Rattle.std.proofs.Common.{◌≡◌, ◌≤◌, ◌+◌, ◌-◌, ◌++◌, [], ℕ, List, Result, Ok, Err, OnOk, OnErr, length, take, drop, replicate, sym, ◌∙◌, ap, subst, arith, length-append}
use Rattle.std.proofs.lemmas.List.{append-nil, take_all, drop_all, length-replicate}
use Rattle.disk_model.specs.Disk.{Image, IsPutAt, Lengthened, Step}
use Rattle.disk_model.specs.Memory.{IsZeroedTo}

-- zeros that are written at the end lengthen the file
put_at_end : (bytes old new : List ℕ) → IsPutAt (length old) bytes old new → new ≡ old ++ bytes
put_at_end bytes old new is =
    is ∙ ap (λ (l : List ℕ). l ++ bytes ++ drop (length old + length bytes) old) (take_all (length old) old (omega arith))
    ∙ ap (λ (l : List ℕ). (old ++ bytes) ++ l) (drop_all (length old + length bytes) old (omega arith)) ∙ append-nil (old ++ bytes)

zeroed_is_longer : (to : ℕ) (old new : List ℕ) → IsZeroedTo to old new → Lengthened to old new × (to ≤ length new)
zeroed_is_longer to old new is =
    let size : length new ≡ length old + (to - length old) =
    ap length is ∙ length-append old (replicate (to - length old) 0) ∙ ap (λ (n : ℕ). length old + n) (length-replicate (to - length old) 0) in
    (record { more = replicate (to - length old) 0; is = is; no_longer = omega (arith, size) }, omega (arith, size))

none_longer : (to : ℕ) (old new : List ℕ) → new ≡ old → Lengthened to old new
none_longer to old new same = record { more = []; is = same ∙ sym (append-nil old); no_longer = omega (arith, ap length same) }

-- what a write of zeros at the end tells of the room that was asked for
pub lengthened : {T E : Type 0} (r : Result T E) (file : List ℕ) (to at : ℕ) (zeros : List ℕ) (old new : Image) → at ≡ length (old file)
    → zeros ≡ replicate (to - at) 0 → OnOk r (Step file (IsPutAt at zeros) old new) → OnErr r (new ≡ old)
    → Step file (λ a b. Lengthened to a b × OnOk r (to ≤ length b)) old new
lengthened (Ok v) file to at zeros old new end are done _ =
    let zeros_are : zeros ≡ replicate (to - length (old file)) 0 = are ∙ ap (λ (n : ℕ). replicate (to - n) 0) end in
    let put : IsPutAt (length (old file)) zeros (old file) (new file) = subst (λ (n : ℕ). IsPutAt n zeros (old file) (new file)) end done.here in
    record {
      here = zeroed_is_longer to _ _ (put_at_end zeros _ _ put ∙ ap (λ (l : List ℕ). old file ++ l) zeros_are);
      others = done.others;
    }
lengthened (Err e) file to at zeros old new end are _ none = record {
  here = (none_longer to _ _ (ap (λ (i : Image). i file) none), tt);
  others = λ name ne. ap (λ (i : Image). i name) none;
}
