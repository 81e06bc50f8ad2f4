-- What is put together of regular values is regular, and nests no deeper than they do.
use Rattle.std.proofs.Common.{◌≡◌, ℕ, zero, suc, ◌≤◌, max, List, Option, Some, None, IfSome, Ordering, Less, Equal, Greater, nat_cmp, option_map, unwrap_or}
use Rattle.std.proofs.Common.{Result, Ok, Err, sym, subst, arith}
use Rattle.std.specs.Prelude.{IsUtf8, IfOk}
use Rattle.std.specs.Ordering.{match_ordering}
use Rattle.std.specs.Cmp.Lexicographic.{slice_cmp}
use Rattle.serde_json.specs.Data.{Data, null, boolean, number, string, array, object, Members, no_members, member, put, depth, members_depth}
use Rattle.serde_json.specs.Find.{get_member, as_object}
use Rattle.tree_core.specs.Regular.{IsOrderly, MembersAreOrderly, HasUtf8, MembersHaveUtf8, IsRegular}
use Rattle.tree_core.proofs.Puts.{found_at, orderly_put, put_utf8}
use Rattle.tree_core.specs.View.{view}
use Rattle.tree_core.specs.declared.tree.Tree.{Tree}
use Rattle.config_ops.specs.Laws.{NestsNoDeeper}
use Rattle.config_ops.specs.Join.{joined, joined_members, first, second}

-- regular, with any bound on the nesting
pub record IsSound (n : ℕ) (d : Data) : Type 0 where
  pub orderly : IsOrderly d
  pub within : depth d ≤ n
  pub utf8 : HasUtf8 d

pub record AreSound (n : ℕ) (ms : Members) : Type 0 where
  pub orderly : MembersAreOrderly ms
  pub within : members_depth ms ≤ n
  pub utf8 : MembersHaveUtf8 ms

pub sound_regular : (d : Data) → IsSound 64 d → IsRegular d
sound_regular d h = record { orderly = h.orderly; shallow = h.within; utf8 = h.utf8 }

pub regular_sound : (d : Data) → IsRegular d → IsSound 64 d
regular_sound d h = record { orderly = h.orderly; within = h.shallow; utf8 = h.utf8 }

pub members_sound : (n : ℕ) (ms : Members) → IsSound (suc n) (object ms) → AreSound n ms
members_sound n ms h = record { orderly = h.orderly; within = omega (arith, h.within); utf8 = h.utf8 }

pub object_sound : (n : ℕ) (ms : Members) → AreSound n ms → IsSound (suc n) (object ms)
object_sound n ms h = record { orderly = h.orderly; within = omega (arith, h.within); utf8 = h.utf8 }

pub none_sound : (n : ℕ) → AreSound n no_members
none_sound n = record { orderly = tt; within = omega arith; utf8 = tt }

-- ---- put and get

put_within_at : (o : Ordering) (n : ℕ) (k : List ℕ) (d : Data) (l : List ℕ) (e : Data) (ms : Members) → depth d ≤ n → members_depth (member l e ms) ≤ n →
    members_depth (put k d ms) ≤ n
    → members_depth (match_ordering o (member k d (member l e ms)) (member l d ms) (member l e (put k d ms))) ≤ n
put_within_at Less n k d l e ms h old later = omega (arith, h, old)
put_within_at Equal n k d l e ms h old later = omega (arith, h, old)
put_within_at Greater n k d l e ms h old later = omega (arith, old, later)

put_within : (n : ℕ) (k : List ℕ) (d : Data) (ms : Members) → depth d ≤ n → members_depth ms ≤ n → members_depth (put k d ms) ≤ n
put_within n k d no_members h old = omega (arith, h)
put_within n k d (member l e ms) h old = put_within_at (slice_cmp nat_cmp k l) n k d l e ms h old (put_within n k d ms h (omega (arith, old)))

pub put_sound : (n : ℕ) (k : List ℕ) (d : Data) (ms : Members) → IsUtf8 k → IsSound n d → AreSound n ms → AreSound n (put k d ms)
put_sound n k d ms named h old = record {
  orderly = orderly_put k d ms h.orderly old.orderly;
  within = put_within n k d ms h.within old.within;
  utf8 = put_utf8 k d ms named h.utf8 old.utf8;
}

pub first_sound : (n : ℕ) (k : List ℕ) (d : Data) (ms : Members) → AreSound n (member k d ms) → IsSound n d
first_sound n k d ms h = record { orderly = h.orderly.1; within = omega (arith, h.within); utf8 = h.utf8.1 }

pub rest_sound : (n : ℕ) (k : List ℕ) (d : Data) (ms : Members) → AreSound n (member k d ms) → AreSound n ms
rest_sound n k d ms h = record { orderly = h.orderly.2; within = omega (arith, h.within); utf8 = h.utf8.2 }

pub get_sound : (n : ℕ) (k : List ℕ) (ms : Members) → AreSound n ms → IfSome (get_member k ms) (IsSound n)
get_sound n k no_members h = tt
get_sound n k (member l e ms) h = found_at (IsSound n) (slice_cmp nat_cmp k l) e (get_member k ms) (first_sound n l e ms h) (get_sound n k ms
    (rest_sound n l e ms h))

-- ---- joins

abbrev pub Keeps : (Data → Data → Data) → Type 0
Keeps other = (n : ℕ) (t u : Data) → IsSound n t → IsSound n u → IsSound n (other t u)

by_object : (other : Data → Data → Data) (n : ℕ) (t : Data) (us : Members) → Keeps other → IsSound n t → IsSound n (object us)
    → ((m : ℕ) (ts : Members) → AreSound m ts → AreSound m us → AreSound m (joined_members other ts us))
    → IsSound n (unwrap_or (option_map (λ ts. object (joined_members other ts us)) (as_object t)) (other t (object us)))
by_object other n null us keeps h u more = keeps n null (object us) h u
by_object other n (boolean b) us keeps h u more = keeps n (boolean b) (object us) h u
by_object other n (number x) us keeps h u more = keeps n (number x) (object us) h u
by_object other n (string s) us keeps h u more = keeps n (string s) (object us) h u
by_object other n (array ds) us keeps h u more = keeps n (array ds) (object us) h u
by_object other zero (object ts) us keeps h u more = absurd (omega (arith, h.within))
by_object other (suc n) (object ts) us keeps h u more = object_sound n _ (more n ts (members_sound n ts h) (members_sound n us u))

at_sound : (n : ℕ) (f : Data → Data) (o : Option Data) (u : Data) → IsSound n u → IfSome o (IsSound n) → ((t : Data) → IsSound n t → IsSound n (f t)) →
    IsSound n (unwrap_or (option_map f o) u)
at_sound n f None u h old more = h
at_sound n f (Some t) u h old more = more t old

mutual
  pub joined_sound : (other : Data → Data → Data) (n : ℕ) (t u : Data) → Keeps other → IsSound n t → IsSound n u → IsSound n (joined other t u)
  joined_sound other n t null keeps h u = keeps n t null h u
  joined_sound other n t (boolean b) keeps h u = keeps n t (boolean b) h u
  joined_sound other n t (number x) keeps h u = keeps n t (number x) h u
  joined_sound other n t (string s) keeps h u = keeps n t (string s) h u
  joined_sound other n t (array ds) keeps h u = keeps n t (array ds) h u
  joined_sound other n t (object us) keeps h u = by_object other n t us keeps h u (λ m ts hs hu. joined_members_sound other m ts us keeps hs hu)

  pub joined_members_sound : (other : Data → Data → Data) (n : ℕ) (ts us : Members) → Keeps other → AreSound n ts → AreSound n us →
      AreSound n (joined_members other ts us)
  joined_members_sound other n ts no_members keeps h u = h
  joined_members_sound other n ts (member k d us) keeps h u =
      joined_members_sound other n _ us keeps
      (put_sound n k _ ts u.utf8.0 (at_sound n _ (get_member k ts) d (first_sound n k d us u) (get_sound n k ts h) (λ t ht. joined_sound other n t d keeps ht
      (first_sound n k d us u))) h)
      (rest_sound n k d us u)

pub second_keeps : Keeps second
second_keeps n t u h more = more

pub first_keeps : Keeps first
first_keeps n t u h more = h

pub joined_regular : (other : Data → Data → Data) (t u : Data) → Keeps other → IsRegular t → IsRegular u → IsRegular (joined other t u)
joined_regular other t u keeps h more = sound_regular _ (joined_sound other 64 t u keeps (regular_sound t h) (regular_sound u more))

pub ok_regular : {E : Type 0} (r : Result Tree E) (x : Data) → IfOk r (λ t. view t ≡ x) → IsRegular x → IfOk r (λ t. IsRegular (view t))
ok_regular (Ok t) x is h = subst IsRegular (sym is) h
ok_regular (Err e) x is h = tt

pub within_max : (t u : Data) → IsRegular t → IsRegular u → IsSound (max (depth t) (depth u)) t × IsSound (max (depth t) (depth u)) u
within_max t u h more = (
  record { orderly = h.orderly; within = omega arith; utf8 = h.utf8 },
  record { orderly = more.orderly; within = omega arith; utf8 = more.utf8 },
)

pub joined_nests : (other : Data → Data → Data) → Keeps other → NestsNoDeeper (joined other)
joined_nests other keeps t u h more = let both = within_max t u h more in (joined_sound other (max (depth t) (depth u)) t u keeps both.0 both.1).within
