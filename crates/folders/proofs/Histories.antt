-- Histories that go on.
use Rattle.std.proofs.Common.{◌≡◌, ◌⊎◌, inl, inr, List, ℕ, [], ◌∷◌, ◌++◌, Bool, true, false, nat_eq, Option, Some, None, refl, sym, ◌∙◌, ap, append_assoc}
use Rattle.std.specs.Cmp.Lexicographic.{pointwise}
use Rattle.std.proofs.lemmas.Bool.Decides.{Decides-eqb}
use Rattle.std.proofs.lemmas.Slice.Eq.{slice_eq-Decides}
use Rattle.std.proofs.lemmas.List.{append-nil}
use Rattle.folders.specs.declared.folder.Opened.{Opened}
use Rattle.folders.specs.History.{Content, Event, Found, Took, Returned, Ended, Synced, Through, Once, Saw, IsUntouched}
use Rattle.folders.specs.Calls.{Stands, IsPassed, Gave}

-- ---- names

pub same_names : (x y : List ℕ) → pointwise nat_eq x y ≡ true → x ≡ y
same_names x y is = (slice_eq-Decides Decides-eqb x y (pointwise nat_eq x y) refl).0 is

pub own_name : (x : List ℕ) → pointwise nat_eq x x ≡ true
own_name x = (slice_eq-Decides Decides-eqb x x (pointwise nat_eq x x) refl).1 refl

pub either : (b : Bool) → (b ≡ true) ⊎ (b ≡ false)
either true = inl refl
either false = inr refl

-- ---- what calls tell

-- nothing came
pub saw_none : (h : Option (List Event)) (P : List Event → Type 0) → P [] → Saw h h P
saw_none None P p = tt
saw_none (Some old) P p = ([], sym (append-nil old), p)

-- one part after another
pub saw_then : (a b c : Option (List Event)) (P Q R : List Event → Type 0) → ((x y : List Event) → P x → Q y → R (x ++ y)) → Saw a b P → Saw b c Q
    → Saw a c R
saw_then None b c P Q R join first second = tt
saw_then (Some x) None c P Q R join first second = absurd first
saw_then (Some x) (Some y) None P Q R join first second = absurd second
saw_then (Some x) (Some y) (Some z) P Q R join (f, is, p) (g, at, q) =
    (f ++ g, at ∙ ap (λ (l : List Event). l ++ g) is ∙ append_assoc x f g, join f g p q)

pub saw_weaker : (a b : Option (List Event)) (P Q : List Event → Type 0) → ((x : List Event) → P x → Q x) → Saw a b P → Saw a b Q
saw_weaker None b P Q to h = tt
saw_weaker (Some x) None P Q to h = absurd h
saw_weaker (Some x) (Some y) P Q to (f, is, p) = (f, is, to f p)

-- ---- moments

-- what holds through all holds through each part
pub through_front : (P : Content → Type 0) (x y : List Event) → Through P (x ++ y) → Through P x
through_front P [] y h = tt
through_front P (Found c ∷ x) y h = (h.0, through_front P x y h.1)
through_front P (Took n i ∷ x) y h = through_front P x y h
through_front P (Returned n ∷ x) y h = through_front P x y h
through_front P (Ended n ∷ x) y h = through_front P x y h
through_front P (Synced ∷ x) y h = through_front P x y h

pub through_back : (P : Content → Type 0) (x y : List Event) → Through P (x ++ y) → Through P y
through_back P [] y h = h
through_back P (Found c ∷ x) y h = through_back P x y h.1
through_back P (Took n i ∷ x) y h = through_back P x y h
through_back P (Returned n ∷ x) y h = through_back P x y h
through_back P (Ended n ∷ x) y h = through_back P x y h
through_back P (Synced ∷ x) y h = through_back P x y h

pub through_weaker : (P Q : Content → Type 0) → ((c : Content) → P c → Q c) → (x : List Event) → Through P x → Through Q x
through_weaker P Q to [] h = tt
through_weaker P Q to (Found c ∷ x) h = (to c h.0, through_weaker P Q to x h.1)
through_weaker P Q to (Took n i ∷ x) h = through_weaker P Q to x h
through_weaker P Q to (Returned n ∷ x) h = through_weaker P Q to x h
through_weaker P Q to (Ended n ∷ x) h = through_weaker P Q to x h
through_weaker P Q to (Synced ∷ x) h = through_weaker P Q to x h

-- what held once in a part held once in all
pub once_front : (P : Content → Type 0) (x y : List Event) → Once P x → Once P (x ++ y)
once_front P [] y h = absurd h
once_front P (Found c ∷ x) y (inl h) = inl h
once_front P (Found c ∷ x) y (inr h) = inr (once_front P x y h)
once_front P (Took n i ∷ x) y h = once_front P x y h
once_front P (Returned n ∷ x) y h = once_front P x y h
once_front P (Ended n ∷ x) y h = once_front P x y h
once_front P (Synced ∷ x) y h = once_front P x y h

pub once_back : (P : Content → Type 0) (x y : List Event) → Once P y → Once P (x ++ y)
once_back P [] y h = h
once_back P (Found c ∷ x) y h = inr (once_back P x y h)
once_back P (Took n i ∷ x) y h = once_back P x y h
once_back P (Returned n ∷ x) y h = once_back P x y h
once_back P (Ended n ∷ x) y h = once_back P x y h
once_back P (Synced ∷ x) y h = once_back P x y h

-- what held at all of them and what held at one held there together
pub together : (P Q : Content → Type 0) (R : Type 0) → ((c : Content) → P c → Q c → R) → (x : List Event) → Through P x → Once Q x → R
together P Q R both [] h k = absurd k
together P Q R both (Found c ∷ x) h (inl k) = both c h.0 k
together P Q R both (Found c ∷ x) h (inr k) = together P Q R both x h.1 k
together P Q R both (Took n i ∷ x) h k = together P Q R both x h k
together P Q R both (Returned n ∷ x) h k = together P Q R both x h k
together P Q R both (Ended n ∷ x) h k = together P Q R both x h k
together P Q R both (Synced ∷ x) h k = together P Q R both x h k

pub untouched_both : (x y : List Event) → IsUntouched x → IsUntouched y → IsUntouched (x ++ y)
untouched_both [] y h k = k
untouched_both (Found c ∷ x) y h k = untouched_both x y h k
untouched_both (Took n i ∷ x) y h k = absurd h
untouched_both (Returned n ∷ x) y h k = absurd h
untouched_both (Ended n ∷ x) y h k = absurd h
untouched_both (Synced ∷ x) y h k = untouched_both x y h k

-- ---- what calls answer, seen from a longer part

pub passed_front : (name : List ℕ) (x y : List Event) → IsPassed name x → IsPassed name (x ++ y)
passed_front name x y h f reads through = h f reads (through_front (Stands name f) x y through)

pub passed_back : (name : List ℕ) (x y : List Event) → IsPassed name y → IsPassed name (x ++ y)
passed_back name x y h f reads through = h f reads (through_back (Stands name f) x y through)

pub gave_front : (name : List ℕ) (most : ℕ) (x y : List Event) (o : Opened) → Gave name most x o → Gave name most (x ++ y) o
gave_front name most x y o h = record {
  stood = once_front _ x y h.stood;
  bytes = λ f through. h.bytes f (through_front (Stands name f) x y through);
}

pub gave_back : (name : List ℕ) (most : ℕ) (x y : List Event) (o : Opened) → Gave name most y o → Gave name most (x ++ y) o
gave_back name most x y o h = record {
  stood = once_back _ x y h.stood;
  bytes = λ f through. h.bytes f (through_back (Stands name f) x y through);
}
