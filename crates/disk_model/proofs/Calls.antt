-- What one call more in the record tells.
use Rattle.std.proofs.Common.{◌≡◌, ℕ, ◌≤◌, min, List, [], ◌∷◌, ◌++◌, length, take, Result, Ok, Err, OnOk, OnErr, is_ok, ◌↔◌, refl, sym, ◌∙◌, ap, subst, arith}
use Rattle.disk_model.specs.Disk.{Image, IsPutAt, Torn, Cut, Step, IsAfter, Settled, HasLeft}
use Rattle.disk_model.specs.Files.{image_of}
use Rattle.disk_model.specs.Memory.{seen_by, left_by, left_since_by, moment_by, Changed, Stable, Unchanged}
use Rattle.disk_model.specs.Put.{put, overwritten}
use Rattle.disk_model.specs.Record.{seen_step, images_step, seen_after, left_after, Recorded, Kept}
use Rattle.disk_model.specs.Laws.Replay.{seen-push, images-push, push-images, leaves_same, leaves_push, put_here, put_other}
use Rattle.disk_model.specs.declared.memory.MemoryDisk.{MemoryDisk}
use Rattle.disk_model.specs.declared.record.Call.{Call}
use Rattle.disk_model.specs.declared.record.Call.TheVariants.{Write as Written, Cut as CutTo, Sync as Synced}
use Rattle.disk_model.proofs.Named.{put_same}

-- a call does the same to images that read the same
step_same : (call : Call) (s t : Image) → ((n : List ℕ) → s n ≡ t n) → (n : List ℕ) → seen_step call s n ≡ seen_step call t n
step_same (Written file at bytes) s t same n = put_same file _ _ s t (ap (λ (l : List ℕ). overwritten at bytes l) (same file)) same n
step_same (CutTo file len) s t same n = put_same file _ _ s t (ap (λ (l : List ℕ). take len l) (same file)) same n
step_same (Synced file) s t same n = same n

-- the files are what the record tells, after one call more or none
pub cached : {T E : Type 0} (r : Result T E) (call : Call) (files later : Image) (old new : List Call) (start : Image)
    → ((n : List ℕ) → files n ≡ seen_after old start n)
    → OnOk r (Recorded call files later old new) → OnErr r (Kept files later old new)
    → (n : List ℕ) → later n ≡ seen_after new start n
cached (Ok v) call files later old new start was done _ n =
    done.reads n ∙ step_same call files (seen_after old start) was n
    ∙ ap (λ (i : Image). i n) (sym (seen-push old call start) ∙ ap (λ (l : List Call). seen_after l start) (sym done.calls))
cached (Err e) call files later old new start was _ none n =
    none.reads n ∙ was n ∙ ap (λ (l : List Call). seen_after l start n) (sym none.calls)

-- where one answer is Ok the other is, with what that gives
pub as_ok : {T E X Y P Q : Type 0} (r : Result T E) (answer : Result X Y) → is_ok answer ≡ is_ok r → OnOk r P → (P → Q) → OnOk answer Q
as_ok (Ok v) (Ok u) same p gives = gives p
as_ok (Ok v) (Err e) same p gives = tt
as_ok (Err e) (Ok u) same p gives = absurd (cc)
as_ok (Err e) (Err f) same p gives = tt

pub as_err : {T E X Y P Q : Type 0} (r : Result T E) (answer : Result X Y) → is_ok answer ≡ is_ok r → OnErr r P → (P → Q) → OnErr answer Q
as_err (Ok v) (Ok u) same p gives = tt
as_err (Ok v) (Err e) same p gives = absurd (cc)
as_err (Err e) (Ok u) same p gives = tt
as_err (Err e) (Err f) same p gives = gives p

-- the images after one call more
left-push : (calls new : List Call) (call : Call) (start c : Image) → new ≡ calls ++ call ∷ [] →
    left_after new start c ↔ images_step call (seen_after calls start) (left_after calls start) c
left-push calls new call start c is = (
  λ left. images-push calls call start _ c (subst (λ (l : List Call). left_after l start c) is left),
  λ left. subst (λ (l : List Call). left_after l start c) (sym is) (push-images calls call start _ c left),
)

seen-pushed : (calls new : List Call) (call : Call) (start : Image) → new ≡ calls ++ call ∷ [] → seen_after new start ≡ seen_step call (seen_after calls start)
seen-pushed calls new call start is = ap (λ (l : List Call). seen_after l start) is ∙ seen-push calls call start

-- a file with other bytes
put_step : (file bytes : List ℕ) (s t : Image) (change : List ℕ → List ℕ → Type 0) → t ≡ put file bytes s → change (s file) bytes → Step file change s t
put_step file bytes s t change is holds = record {
  here = subst (λ (l : List ℕ). change (s file) l) (sym (ap (λ (i : Image). i file) is ∙ put_here file bytes s)) holds;
  others = λ name ne. ap (λ (i : Image). i name) is ∙ put_other file bytes s name ne;
}

module _ (old new : MemoryDisk) (start : image_of new.start ≡ image_of old.start) where
  left_same : (c : Image) → left_by new c ↔ left_after new.calls.items (image_of old.start) c
  left_same c = (
    λ left. subst (λ (i : Image). left_after new.calls.items i c) start left,
    λ left. subst (λ (i : Image). left_after new.calls.items i c) (sym start) left,
  )

  seen_same : seen_by new ≡ seen_after new.calls.items (image_of old.start)
  seen_same = ap (λ (i : Image). seen_after new.calls.items i) start

  module _ (call : Call) (is : new.calls.items ≡ old.calls.items ++ call ∷ []) where
    left_now : (c : Image) → left_by new c ↔ images_step call (seen_by old) (left_by old) c
    left_now c =
        let push = left-push old.calls.items new.calls.items call (image_of old.start) c is in
        (λ left. push.0 ((left_same c).0 left), λ left. (left_same c).1 (push.1 left))

    seen_now : seen_by new ≡ seen_step call (seen_by old)
    seen_now = seen_same ∙ seen-pushed old.calls.items new.calls.items call (image_of old.start) is

  pub wrote : (file : List ℕ) (at : ℕ) (bytes : List ℕ) → at ≤ length (seen_by old file) → new.calls.items ≡ old.calls.items ++ Written file at bytes ∷ []
      → Changed file (IsPutAt at bytes) (Torn at (length bytes)) old new
  wrote file at bytes le is =
      let place : min at (length (seen_by old file)) ≡ at = omega arith in
      let now = left_now (Written file at bytes) is in
      record {
        reads = put_step file (overwritten at bytes (seen_by old file)) (seen_by old) (seen_by new) (IsPutAt at bytes)
            (seen_now (Written file at bytes) is) refl;
        leaves = λ c. (
          λ left. subst (λ (n : ℕ). IsAfter (left_by old) (Step file (Torn n (length bytes))) c) place ((now c).0 left),
          λ was. (now c).1 (subst (λ (n : ℕ). IsAfter (left_by old) (Step file (Torn n (length bytes))) c) (sym place) was),
        );
      }

  pub was_cut : (file : List ℕ) (len : ℕ) (reads_as : List ℕ → List ℕ → Type 0) → ((l : List ℕ) → reads_as l (take len l)) →
      new.calls.items ≡ old.calls.items ++ CutTo file len ∷ []
      → Changed file reads_as (Cut len) old new
  was_cut file len reads_as holds is = record {
    reads = put_step file (take len (seen_by old file)) (seen_by old) (seen_by new) reads_as (seen_now (CutTo file len) is) (holds (seen_by old file));
    leaves = left_now (CutTo file len) is;
  }

  pub is_stable : (file : List ℕ) → new.calls.items ≡ old.calls.items ++ Synced file ∷ [] → Stable file old new
  is_stable file is = record { reads = seen_now (Synced file) is; leaves = left_now (Synced file) is }

  pub is_same : new.calls.items ≡ old.calls.items → Unchanged old new
  is_same is = record {
    reads = seen_same ∙ ap (λ (l : List Call). seen_after l (image_of old.start)) is;
    leaves = λ c. (
      λ left. subst (λ (l : List Call). left_after l (image_of old.start) c) is ((left_same c).0 left),
      λ left. (left_same c).1 (subst (λ (l : List Call). left_after l (image_of old.start) c) (sym is) left),
    );
  }

  -- the moments of one call more, or none
  pub moments : {T E : Type 0} (r : Result T E) (call : Call) (P : Image → Type 0)
      → ((c : Image) → left_by old c → P c)
      → ((c : Image) → images_step call (seen_by old) (left_by old) c → P c)
      → OnOk r (new.calls.items ≡ old.calls.items ++ call ∷ []) → OnErr r (new.calls.items ≡ old.calls.items)
      → HasLeft moment_by left_since_by old new P
  moments (Ok v) call P before after next _ = leaves_push (λ (d : MemoryDisk). d.calls.items) (λ d. image_of d.start) old new call P next start before after
  moments (Err e) call P before after _ none =
      let leaves = leaves_same (λ (d : MemoryDisk). d.calls.items) (λ d. image_of d.start) old new none start in
      record { later = leaves.later; each = λ c left. before c (leaves.each c left); joins = leaves.joins; keeps = leaves.keeps }

-- after a sync every image has in the file what it reads as
pub settled : (file : List ℕ) (old new : List Call) (start : Image) → new ≡ old ++ Synced file ∷ [] →
    Settled (left_after new start) file (seen_after new start file)
settled file old new start is c left =
    ((left-push old new (Synced file) start c is).0 left).1 ∙ ap (λ (i : Image). i file) (sym (seen-pushed old new (Synced file) start is))
