-- A value that was filled from a default is filled from it.
use Rattle.std.proofs.Common.{◌≡◌, ℕ, zero, suc, List, [], ◌∷◌, Option, Some, None, IfSome, refl, sym, ap, ◌∙◌, arith}
use Rattle.std.specs.Prelude.{⊤, IfSome}
use Rattle.serde_json.specs.Data.{Data, null, boolean, number, string, array, object, Members, no_members, member}
use Rattle.serde_json.specs.Find.{get_member}
use Rattle.std.proofs.Common.{nat_cmp}
use Rattle.std.specs.Cmp.Lexicographic.{slice_cmp}
use Rattle.tree_core.specs.Regular.{IsRegular}
use Rattle.tree_core.proofs.Puts.{found_at}
use Rattle.config_ops.specs.Join.{joined_members, first, filled}
use Rattle.config_ops.specs.Laws.{each_key, IsRegularChange, ConfigStays, ConfigIsFilled}
use Rattle.config_ops.specs.Reset.{reset_at}
use Rattle.config_ops.specs.NewConfig.{Change, start, after_resets, after_merge, changed}
use Rattle.config_ops.proofs.KeyByKey.{same_members, joins_each_key}
use Rattle.config_ops.proofs.Sound.{IsSound, AreSound, members_sound, joined_members_sound, first_keeps, second_keeps, get_sound, regular_sound, joined_regular}
use Rattle.config_ops.proofs.SoundReset.{reset_regular}

record Settles (d : Data) : Type 0 where
  alone : (n : ℕ) → IsSound n d → filled d d ≡ d
  again : (n : ℕ) (t : Data) → IsSound n d → IsSound n t → filled (filled t d) d ≡ filled t d

abbrev AllSettle : Members → Type 0
AllSettle no_members = ⊤
AllSettle (member k d ds) = Settles d × AllSettle ds

found : (k : List ℕ) (ds : Members) → AllSettle ds → IfSome (get_member k ds) Settles
found k no_members h = tt
found k (member l d ds) h = found_at Settles (slice_cmp nat_cmp k l) d (get_member k ds) h.0 (found k ds h.1)

alone_at : (n : ℕ) (o : Option Data) → IfSome o Settles → IfSome o (IsSound n) → each_key filled o o ≡ o
alone_at n None s h = refl
alone_at n (Some d) s h = ap Some (s.alone n h)

again_at : (n : ℕ) (o p : Option Data) → IfSome p Settles → IfSome p (IsSound n) → IfSome o (IsSound n) →
    each_key filled (each_key filled o p) p ≡ each_key filled o p
again_at n None None s h old = refl
again_at n (Some t) None s h old = refl
again_at n None (Some d) s h old = ap Some (s.alone n h)
again_at n (Some t) (Some d) s h old = ap Some (s.again n t h old)

members_alone : (n : ℕ) (ds : Members) → AllSettle ds → AreSound n ds → joined_members first ds ds ≡ ds
members_alone n ds s h =
    same_members (joined_members first ds ds) ds (joined_members_sound first n ds ds first_keeps h h).orderly h.orderly
    (λ k. joins_each_key first k ds ds h.orderly ∙ alone_at n (get_member k ds) (found k ds s) (get_sound n k ds h))

members_again : (n : ℕ) (ts ds : Members) → AllSettle ds → AreSound n ts → AreSound n ds →
    joined_members first (joined_members first ts ds) ds ≡ joined_members first ts ds
members_again n ts ds s old h =
    let once = joined_members_sound first n ts ds first_keeps old h in
    same_members (joined_members first (joined_members first ts ds) ds) (joined_members first ts ds) (joined_members_sound first n _ ds first_keeps once
    h).orderly once.orderly
    (λ k. joins_each_key first k (joined_members first ts ds) ds h.orderly
    ∙ ap (λ o. each_key filled o (get_member k ds)) (joins_each_key first k ts ds h.orderly)
    ∙ again_at n (get_member k ts) (get_member k ds) (found k ds s) (get_sound n k ds h) (get_sound n k ts old)
    ∙ sym (joins_each_key first k ts ds h.orderly))

object_alone : (n : ℕ) (ds : Members) → AllSettle ds → IsSound n (object ds) → filled (object ds) (object ds) ≡ object ds
object_alone zero ds s h = absurd (omega (arith, h.within))
object_alone (suc n) ds s h = ap object (members_alone n ds s (members_sound n ds h))

object_again : (n : ℕ) (t : Data) (ds : Members) → AllSettle ds → IsSound n (object ds) → IsSound n t →
    filled (filled t (object ds)) (object ds) ≡ filled t (object ds)
object_again n null ds s h old = refl
object_again n (boolean b) ds s h old = refl
object_again n (number x) ds s h old = refl
object_again n (string x) ds s h old = refl
object_again n (array x) ds s h old = refl
object_again zero (object ts) ds s h old = absurd (omega (arith, h.within))
object_again (suc n) (object ts) ds s h old = ap object (members_again n ts ds s (members_sound n ts old) (members_sound n ds h))

mutual
  settles : (d : Data) → Settles d
  settles null = record { alone = λ n h. refl; again = λ n t h old. refl }
  settles (boolean b) = record { alone = λ n h. refl; again = λ n t h old. refl }
  settles (number x) = record { alone = λ n h. refl; again = λ n t h old. refl }
  settles (string x) = record { alone = λ n h. refl; again = λ n t h old. refl }
  settles (array x) = record { alone = λ n h. refl; again = λ n t h old. refl }
  settles (object ds) = let all = all_settle ds in record { alone = λ n h. object_alone n ds all h; again = λ n t h old. object_again n t ds all h old }

  all_settle : (ds : Members) → AllSettle ds
  all_settle no_members = tt
  all_settle (member k d ds) = (settles d, all_settle ds)

-- ---- configurations

start_regular : (kept : Option Data) (d : Data) → IfSome kept IsRegular → IsRegular d → IsRegular (start kept d)
start_regular None d old h = h
start_regular (Some t) d old h = joined_regular first t d first_keeps old h

resets_regular : (d : Data) (resets : List (List (List ℕ))) (t : Data) → IsRegular d → IsRegular t → IsRegular (after_resets d resets t)
resets_regular d [] t h old = old
resets_regular d (keys ∷ resets) t h old = resets_regular d resets (reset_at t d keys) h (reset_regular t d keys old h)

merge_regular : (o : Option Data) (t : Data) → IfSome o IsRegular → IsRegular t → IsRegular (after_merge o t)
merge_regular None t u old = old
merge_regular (Some x) t u old = joined_regular _ t x second_keeps old u

changed_regular : (d : Data) (update : Option Change) (t : Data) → IsRegularChange update → IsRegular d → IsRegular t → IsRegular (changed d update t)
changed_regular d None t u h old = old
changed_regular d (Some c) t u h old = merge_regular c.merge (after_resets d c.resets t) u (resets_regular d c.resets t h old)

pub config_is_filled : ConfigIsFilled
config_is_filled kept d update old h u =
    let first_part = changed d update (start kept d) in
    (settles d).again 64 first_part (regular_sound d h) (regular_sound first_part (changed_regular d update (start kept d) u h (start_regular kept d old h)))

pub config_stays : ConfigStays
config_stays kept d update old h u =
    let once = config_is_filled kept d update old h u in
    ap (λ y. filled y d) once ∙ once
