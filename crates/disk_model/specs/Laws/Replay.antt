-- How a record of calls tells more as it grows.
use Rattle.std.specs.Prelude.{◌≡◌, ◌≢◌, ◌⊎◌, ℕ, ◌+◌, ◌≤◌, min, Bool, if◌then◌else◌, List, [], ◌∷◌, ◌++◌, length, take, drop, refl}
use Rattle.std.proofs.Common.{inl, inr, sym, ◌∙◌, ap, subst, arith, append_assoc, length-append, length-drop}
use Rattle.std.proofs.lemmas.Bool.{cases_lt, false_from_ne_true}
use Rattle.std.proofs.lemmas.List.{take_all, take-append-le, take_at, drop_at, drop_all, take_min, length-take, length-take-le}
use Rattle.std.proofs.lemmas.Slice.Eq.{bytes_eq-Decides}
use Rattle.disk_model.specs.Disk.{Image, Torn, Cut, Step, IsAfter, HasLeft}
use Rattle.disk_model.specs.Put.{put, overwritten}
use Rattle.disk_model.specs.Record.{seen_step, images_step, seen_after, images_after, left_after, left_from}
use Rattle.disk_model.specs.declared.record.Call.{Call}
use Rattle.disk_model.specs.declared.record.Call.TheVariants.{Write as Written, Cut as CutTo, Sync as Synced}

pub seen-push : (calls : List Call) (call : Call) (start : Image) → seen_after (calls ++ call ∷ []) start ≡ seen_step call (seen_after calls start)
seen-push [] call start = refl
seen-push (k ∷ calls) call start = seen-push calls call (seen_step k start)

pub images-push : (calls : List Call) (call : Call) (start : Image) (images : Image → Type 0) (c : Image)
    → images_after (calls ++ call ∷ []) start images c → images_step call (seen_after calls start) (images_after calls start images) c
images-push [] call start images c left = left
images-push (k ∷ calls) call start images c left = images-push calls call (seen_step k start) (images_step k start images) c left

pub push-images : (calls : List Call) (call : Call) (start : Image) (images : Image → Type 0) (c : Image)
    → images_step call (seen_after calls start) (images_after calls start images) c → images_after (calls ++ call ∷ []) start images c
push-images [] call start images c left = left
push-images (k ∷ calls) call start images c left = push-images calls call (seen_step k start) (images_step k start images) c left

pub put_here : (file bytes : List ℕ) (image : Image) → put file bytes image file ≡ bytes
put_here file bytes image = ap (λ (b : Bool). if b then bytes else image file) ((bytes_eq-Decides file file).1 refl)

pub put_other : (file bytes : List ℕ) (image : Image) (name : List ℕ) → name ≢ file → put file bytes image name ≡ image name
put_other file bytes image name ne = ap (λ (b : Bool). if b then bytes else image name)
    (false_from_ne_true _ (λ same. ne ((bytes_eq-Decides name file).0 same)))

-- a write and a cut that are done are among those that a crash may leave, and so are those that are not begun
pub torn_done : (at : ℕ) (bytes old : List ℕ) → at ≤ length old → Torn at (length bytes) old (overwritten at bytes old)
torn_done at bytes old le =
    let prefix = take at old in
    let size : length prefix ≡ at = length-take-le at old le in
    let sizes : length (prefix ++ bytes) ≡ at + length bytes = omega (arith, length-append prefix bytes, size) in
    record {
      before = ap (λ (l : List ℕ). take at l) (append_assoc prefix bytes (drop (at + length bytes) old)) ∙ take_at prefix
          (bytes ++ drop (at + length bytes) old) at size;
      after = drop_at (prefix ++ bytes) (drop (at + length bytes) old) (at + length bytes) sizes;
      no_shorter = omega (arith, length-append (prefix ++ bytes) (drop (at + length bytes) old), sizes, length-drop (at + length bytes) old);
      no_longer = omega (arith, length-append (prefix ++ bytes) (drop (at + length bytes) old), sizes, length-drop (at + length bytes) old);
    }

pub torn_by : (at : ℕ) (bytes old : List ℕ) → Torn (min at (length old)) (length bytes) old (overwritten at bytes old)
torn_by at bytes old = elim (cases_lt (length old) at) [
  | inl past ↦
      let place : min at (length old) ≡ length old = omega arith in
      let same : overwritten at bytes old ≡ overwritten (length old) bytes old =
      ap (λ (l : List ℕ). l ++ bytes ++ drop (at + length bytes) old) (take_all at old (omega arith) ∙ sym (take_all (length old) old (omega arith)))
      ∙ ap (λ (l : List ℕ). take (length old) old ++ bytes ++ l)
      (drop_all (at + length bytes) old (omega arith) ∙ sym (drop_all (length old + length bytes) old (omega arith))) in
      subst (λ (n : ℕ). Torn n (length bytes) old (overwritten at bytes old)) (sym place)
      (subst (λ (l : List ℕ). Torn (length old) (length bytes) old l) (sym same) (torn_done (length old) bytes old (omega arith)))
  | inr within ↦
      let place : min at (length old) ≡ at = omega arith in
      subst (λ (n : ℕ). Torn n (length bytes) old (overwritten at bytes old)) (sym place) (torn_done at bytes old within)
]

pub torn_none : (at n : ℕ) (old : List ℕ) → Torn at n old old
torn_none at n old = record { before = refl; after = refl; no_shorter = omega arith; no_longer = omega arith }

pub cut_done : (n : ℕ) (old : List ℕ) → Cut n old (take n old)
cut_done n old = record {
  no_shorter = omega (arith, length-take n old);
  prefix = sym (take_min n old) ∙ ap (λ (k : ℕ). take k old) (sym (length-take n old));
}

pub cut_none : (n : ℕ) (old : List ℕ) → Cut n old old
cut_none n old = record { no_shorter = omega arith; prefix = sym (take_all (length old) old (omega arith)) }

-- a step that changes nothing
pub unchanged : (images : Image → Type 0) (file : List ℕ) (change : List ℕ → List ℕ → Type 0) → ((l : List ℕ) → change l l) → (c : Image) → images c →
    IsAfter images (Step file change) c
unchanged images file change none c left = (c, left, record { here = none (c file); others = λ name ne. refl })

pub reads_step : (call : Call) (image : Image) (images : Image → Type 0) → images image → images_step call image images (seen_step call image)
reads_step (Written file at bytes) image images left = (
  image,
  left,
  record {
    here = subst (λ (l : List ℕ). Torn (min at (length (image file))) (length bytes) (image file) l) (sym (put_here file _ image))
        (torn_by at bytes (image file));
    others = put_other file _ image;
  },
)
reads_step (CutTo file n) image images left = (
  image,
  left,
  record {
    here = subst (λ (l : List ℕ). Cut n (image file) l) (sym (put_here file _ image)) (cut_done n (image file));
    others = put_other file _ image;
  },
)
reads_step (Synced file) image images left = (left, refl)

reads_from : (calls : List Call) (image : Image) (images : Image → Type 0) → images image → images_after calls image images (seen_after calls image)
reads_from [] image images left = left
reads_from (call ∷ calls) image images left = reads_from calls (seen_step call image) (images_step call image images) (reads_step call image images left)

-- a disk as it reads is one of its images
pub reads : (calls : List Call) (start : Image) → left_after calls start (seen_after calls start)
reads calls start = reads_from calls start (λ c. c ≡ start) refl

-- the laws of moments
pub counts_now : (calls : List Call) (start : Image) (t : ℕ) (c : Image) → t ≤ length calls → left_after calls start c → left_from calls start t c
counts_now calls start t c le left = (
  length calls,
  le,
  omega arith,
  subst (λ (l : List Call). left_after l start c)
      (sym (take_all (length calls) calls (omega arith))) left,
)

pub only_now : (calls : List Call) (start : Image) (c : Image) → left_from calls start (length calls) c → left_after calls start c
only_now calls start c left =
    subst (λ (l : List Call). left_after l start c) (take_all left.0 calls (omega (arith, left.1))) left.3

pub earlier : (calls : List Call) (start : Image) (s t : ℕ) (c : Image) → s ≤ t → left_from calls start t c → left_from calls start s c
earlier calls start s t c le left = (left.0, omega (arith, left.1), left.2, left.3)

module _ {D : Type 0} (calls : D → List Call) (start : D → Image) where
  -- a call that adds nothing to the record
  pub leaves_same : (old new : D) → calls new ≡ calls old → start new ≡ start old
      → HasLeft (λ d. length (calls d)) (λ d t c. left_from (calls d) (start d) t c) old new (left_after (calls old) (start old))
  leaves_same old new same_calls same_start =
      let to : (t : ℕ) (c : Image) → left_from (calls new) (start new) t c → left_from (calls old) (start old) t c
      = λ t c left. subst (λ (i : Image). left_from (calls old) i t c) same_start (subst (λ (l : List Call). left_from l (start new) t c) same_calls left) in
      record {
        later = omega (arith, ap length same_calls);
        each = λ c left. only_now (calls old) (start old) c (to (length (calls old)) c left);
        joins = λ t c le left. inl (to t c left);
        keeps = λ t c le left. subst (λ (l : List Call). left_from l (start new) t c) (sym same_calls)
            (subst (λ (i : Image). left_from (calls old) i t c) (sym same_start) left);
      }

  -- a call that adds itself
  pub leaves_push : (old new : D) (call : Call) (P : Image → Type 0) → calls new ≡ calls old ++ call ∷ [] → start new ≡ start old
      → ((c : Image) → left_after (calls old) (start old) c → P c)
      → ((c : Image) → images_step call (seen_after (calls old) (start old)) (left_after (calls old) (start old)) c → P c)
      → HasLeft (λ d. length (calls d)) (λ d t c. left_from (calls d) (start d) t c) old new P
  leaves_push old new call P pushed same_start before after = record {
    later = omega (arith, sizes);
    each = λ c left. elim (split (length (calls old)) c (to (length (calls old)) c left)) [
      | inl was ↦ before c (only_now (calls old) (start old) c was)
      | inr now ↦ after c now
    ];
    joins = λ t c le left. elim (split t c (to t c left)) [
      | inl was ↦ inl was
      | inr now ↦ inr (from (length (calls old)) c (
        length (calls old) + 1,
        omega arith,
        omega (arith, length-append (calls old) (call ∷ [])),
        subst (λ (l : List Call). left_after l (start old) c)
            (sym (take_all (length (calls old) + 1) (calls old ++ call ∷ []) (omega (arith, length-append (calls old) (call ∷ [])))))
            (push-images (calls old) call (start old) _ c now),
      ))
    ];
    keeps = λ t c le left. from t c (
      left.0,
      left.1,
      omega (arith, left.2, length-append (calls old) (call ∷ [])),
      subst (λ (l : List Call). left_after l (start old) c) (sym (take-append-le left.0 (calls old) (call ∷ []) left.2)) left.3,
    );
  }
    where
      sizes : length (calls new) ≡ length (calls old) + 1
      sizes = ap length pushed ∙ omega (arith, length-append (calls old) (call ∷ []))

      to : (t : ℕ) (c : Image) → left_from (calls new) (start new) t c → left_from (calls old ++ call ∷ []) (start old) t c
      to t c left = subst (λ (i : Image). left_from (calls old ++ call ∷ []) i t c) same_start
          (subst (λ (l : List Call). left_from l (start new) t c) pushed left)

      from : (t : ℕ) (c : Image) → left_from (calls old ++ call ∷ []) (start old) t c → left_from (calls new) (start new) t c
      from t c left = subst (λ (l : List Call). left_from l (start new) t c) (sym pushed)
          (subst (λ (i : Image). left_from (calls old ++ call ∷ []) i t c) (sym same_start) left)

      split : (t : ℕ) (c : Image) → left_from (calls old ++ call ∷ []) (start old) t c
          → left_from (calls old) (start old) t c ⊎ images_step call (seen_after (calls old) (start old)) (left_after (calls old) (start old)) c
      split t c left = elim (cases_lt (length (calls old)) left.0) [
        | inr within ↦ inl (
          left.0,
          left.1,
          within,
          subst (λ (l : List Call). left_after l (start old) c)
              (take-append-le left.0 (calls old) (call ∷ []) within) left.3,
        )
        | inl past ↦ inr (images-push (calls old) call (start old) _ c
            (subst (λ (l : List Call). left_after l (start old) c)
            (take_all left.0 (calls old ++ call ∷ []) (omega (arith, past, length-append (calls old) (call ∷ [])))) left.3))
      ]
