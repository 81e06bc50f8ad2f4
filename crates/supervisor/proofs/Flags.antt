-- Flags that spread along hard needs.
use Rattle.std.proofs.Common.{◌≡◌, ◌<◌, ◌≤◌, ◌+◌, ℕ, suc, zero, List, [], ◌∷◌, length, Bool, true, false, refl, sym, ap, ◌∙◌, arith, subst, get_or, take}
use Rattle.std.proofs.Common.{drop, replicate, ◌⊎◌, inl, inr, add-one, Some}
use Rattle.std.proofs.lemmas.List.{take_all}
use Rattle.lifecycle.specs.declared.kinds.After.TheVariants as after
use Rattle.std.proofs.Math.ListN.{set}
use Rattle.std.proofs.lemmas.Bool.{cases_eq}
use Rattle.std.specs.Str.{bytes_eq}
use Rattle.std.specs.Prelude.{◌&&◌, ◌||◌, not, if◌then◌else◌, slice_set}
use Rattle.components.specs.Components.{ComponentState, At, component_name}
use Rattle.components.specs.Changes.{is_replacing, replanned}
use Rattle.components.specs.Marks.{Flagged, grown, reaching, is_flagged, needs_flagged, flagged, flagged_at, marked, restarted, may_restart, may_replan}
use Rattle.components.specs.Marks.{AreFlagsWithin, IsClosedBack}
use Rattle.components.specs.Flags.{with_flags, free, may_by, joins, IsInClosure, HasSpread, SpreadOutcome}
use Rattle.components.proofs.Each.{at_more}
use Rattle.components.proofs.Closes.{within_refl, trans, needs_more, most, closes, least}

antisym_flag : (a b : Bool) → (a ≡ true → b ≡ true) → (b ≡ true → a ≡ true) → a ≡ b
antisym_flag true true f g = refl
antisym_flag false false f g = refl
antisym_flag true false f g = sym (f refl)
antisym_flag false true f g = g refl

pair_is : (f h : ComponentState × Bool) → f.0 ≡ h.0 → f.1 ≡ h.1 → f ≡ h
pair_is f h e b = ap (λ (p : ComponentState). (p, f.1)) e ∙ ap (λ (x : Bool). (h.0, x)) b

-- as flags go both ways they are the same
pub same_flags : (fs hs : Flagged) → AreFlagsWithin fs hs → AreFlagsWithin hs fs → fs ≡ hs
same_flags [] [] v w = refl
same_flags [] (h ∷ hs) v w = absurd v
same_flags (f ∷ fs) [] v w = absurd v
same_flags (f ∷ fs) (h ∷ hs) v w =
    let g : f ≡ h = pair_is f h v.0 (antisym_flag f.1 h.1 v.1 w.1) in
    ap (λ (x : ComponentState × Bool). x ∷ fs) g ∙ ap (λ (xs : Flagged). h ∷ xs) (same_flags fs hs v.2 w.2)

-- ---- one more flag

pub within_set : (ps : List ComponentState) (bs : List Bool) (k : ℕ) → AreFlagsWithin (with_flags ps bs) (with_flags ps (set bs k true))
within_set [] bs k = tt
within_set (p ∷ ps) [] k = tt
within_set (p ∷ ps) (b ∷ bs) zero = (refl, (λ e. refl), within_refl (with_flags ps bs))
within_set (p ∷ ps) (b ∷ bs) (suc k) = (refl, (λ e. e), within_set ps bs k)

-- the flag of the place
abbrev flag_is : Flagged → ℕ → Bool
flag_is [] k = false
flag_is (h ∷ hs) zero = h.1
flag_is (h ∷ hs) (suc k) = flag_is hs k

set_under : (ps : List ComponentState) (bs : List Bool) (hs : Flagged) (k : ℕ) → AreFlagsWithin (with_flags ps bs) hs →
    (k < length ps → k < length bs → flag_is hs k ≡ true) → AreFlagsWithin (with_flags ps (set bs k true)) hs
set_under [] bs hs k w f = w
set_under (p ∷ ps) [] hs k w f = w
set_under (p ∷ ps) (b ∷ bs) [] k w f = absurd w
set_under (p ∷ ps) (b ∷ bs) (h ∷ hs) zero w f = (w.0, (λ e. f (omega arith) (omega arith)), w.2)
set_under (p ∷ ps) (b ∷ bs) (h ∷ hs) (suc k) w f = (w.0, w.1, set_under ps bs hs k w.2 (λ l m. f (omega arith) (omega arith)))

or_right : (a b : Bool) → b ≡ true → (a || b) ≡ true
or_right true b e = refl
or_right false b e = e

tail_is : (all : Flagged) (h : ComponentState × Bool) (hs : Flagged) → grown all (h ∷ hs) ≡ h ∷ hs → grown all hs ≡ hs
tail_is all h hs c = cc

-- in what is closed, one that needs a flagged one has a flag
closed_flag : (all hs : Flagged) (ps : List ComponentState) (bs : List Bool) (k : ℕ) → grown all hs ≡ hs → AreFlagsWithin (with_flags ps bs) hs
    → k < length ps →
    k < length bs → At k (λ p. needs_flagged p.fitted.hard all ≡ true) ps → flag_is hs k ≡ true
closed_flag all hs [] bs k c w l m n = absurd n
closed_flag all hs (p ∷ ps) [] k c w l m n = absurd (omega arith)
closed_flag all [] (p ∷ ps) (b ∷ bs) k c w l m n = absurd w
closed_flag all (h ∷ hs) (p ∷ ps) (b ∷ bs) zero c w l m n =
    let e : (h.1 || needs_flagged h.0.fitted.hard all) ≡ h.1 = ap (λ (fs : Flagged). flag_is fs zero) c in
    sym e ∙ or_right h.1 (needs_flagged h.0.fitted.hard all) (subst (λ (q : ComponentState). needs_flagged q.fitted.hard all ≡ true) w.0 n)
closed_flag all (h ∷ hs) (p ∷ ps) (b ∷ bs) (suc k) c w l m n = closed_flag all hs ps bs k (tail_is all h hs c) w.2 (omega arith) (omega arith) n

-- ---- a pass

pub join_under : (ps : List ComponentState) (old bs : List Bool) (k : ℕ) → IsInClosure ps old bs
    → At k (λ p. needs_flagged p.fitted.hard (with_flags ps bs) ≡ true)
    ps → IsInClosure ps old (set bs k true)
join_under ps old bs k u n = λ hs w c.
    let v = u hs w c in
    set_under ps bs hs k v (λ l m. closed_flag hs hs ps bs k c v l m
    (at_more (λ p. needs_flagged p.fitted.hard (with_flags ps bs) ≡ true) (λ p. needs_flagged p.fitted.hard hs ≡ true) ps k
    (λ p e. needs_more p.fitted.hard (with_flags ps bs) hs v e) n))

under_refl : (ps : List ComponentState) (bs : List Bool) → IsInClosure ps bs bs
under_refl ps bs = λ hs w c. w

-- a pass so far: up to the place none joins, where none joined before
pub record Passes (ps : List ComponentState) (old bs : List Bool) (grew : Bool) (k : ℕ) : Type 0 where
  pub many : length bs ≡ length old
  pub more : AreFlagsWithin (with_flags ps old) (with_flags ps bs)
  pub under : IsInClosure ps old bs
  pub fewer : grew ≡ true → free bs < free old
  pub same : grew ≡ false → bs ≡ old
  pub none : grew ≡ false → (j : ℕ) → j < k → At j (λ p. joins ps old j p ≡ false) ps

pub passes_none : (ps : List ComponentState) (old : List Bool) → Passes ps old old false 0
passes_none ps old = record {
  many = refl;
  more = within_refl (with_flags ps old);
  under = under_refl ps old;
  fewer = λ e. absurd (cc);
  same = λ e. refl;
  none = λ e j l. absurd (omega arith);
}

at_split : (j k : ℕ) → j < k + 1 → (j < k) ⊎ (j ≡ k)
at_split j k l = elim (cases_eq j k) [ inl e ↦ inr e | inr ne ↦ inl (omega (arith, ne)) ]

pub passes_skip : (ps : List ComponentState) (old bs : List Bool) (grew : Bool) (k : ℕ) → Passes ps old bs grew k → At k (λ p. false ≡ joins ps bs k p) ps →
    Passes ps old bs grew (k + 1)
passes_skip ps old bs grew k p j = record {
  many = p.many;
  more = p.more;
  under = p.under;
  fewer = p.fewer;
  same = p.same;
  none = λ e i l. elim (at_split i k l) [
    | inl m ↦ p.none e i m
    | inr q ↦ subst (λ (n : ℕ). At n (λ x. joins ps old n x ≡ false) ps) (sym q) (at_more (λ x. false ≡ joins ps bs k x) (λ x. joins ps old k x ≡ false) ps k
        (λ x h. subst (λ (cs : List Bool). joins ps cs k x ≡ false) (p.same e) (sym h)) j)
  ];
}

free_set : (bs : List Bool) (k : ℕ) → k < length bs → get_or bs k false ≡ false → free (set bs k true) < free bs
free_set [] k l e = absurd (omega arith)
free_set (b ∷ bs) zero l e = let q : b ≡ false = e in rw q (omega arith)
free_set (b ∷ bs) (suc k) l e = let i = free_set bs k (omega arith) e in omega (arith, i)

free_less : (grew : Bool) (new bs old : ℕ) → new < bs → (grew ≡ true → bs < old) → (grew ≡ false → bs ≡ old) → new < old
free_less true new bs old l f g = let a = f refl in omega (arith, l, a)
free_less false new bs old l f g = let a = g refl in omega (arith, l, a)

and_left : (a b : Bool) → true ≡ (not a && b) → a ≡ false
and_left true b e = absurd (cc)
and_left false b e = refl

and_right : (a b : Bool) → true ≡ (not a && b) → b ≡ true
and_right true b e = absurd (cc)
and_right false b e = sym e

length-set : (bs : List Bool) (k : ℕ) → length (set bs k true) ≡ length bs
length-set [] k = refl
length-set (b ∷ bs) zero = refl
length-set (b ∷ bs) (suc k) = ap suc (length-set bs k)

joined_free : (ps qs : List ComponentState) (bs : List Bool) (k j : ℕ) → At j (λ p. true ≡ joins ps bs k p) qs → get_or bs k false ≡ false
joined_free ps [] bs k j h = absurd h
joined_free ps (q ∷ qs) bs k zero h = and_left (get_or bs k false) (needs_flagged q.fitted.hard (with_flags ps bs)) h
joined_free ps (q ∷ qs) bs k (suc j) h = joined_free ps qs bs k j h

pub passes_set : (ps : List ComponentState) (old bs : List Bool) (grew : Bool) (k : ℕ) → k < length bs → Passes ps old bs grew k →
    At k (λ p. true ≡ joins ps bs k p) ps → Passes ps old (set bs k true) true (k + 1)
passes_set ps old bs grew k l p j = record {
  many = length-set bs k ∙ p.many;
  more = trans (with_flags ps old) (with_flags ps bs) (with_flags ps (set bs k true)) p.more (within_set ps bs k);
  under = join_under ps old bs k p.under (at_more (λ x. true ≡ joins ps bs k x) (λ x. needs_flagged x.fitted.hard (with_flags ps bs) ≡ true) ps k
      (λ x h. and_right (get_or bs k false) (needs_flagged x.fitted.hard (with_flags ps bs)) h) j);
  fewer = λ e. free_less grew (free (set bs k true)) (free bs) (free old) (free_set bs k l (joined_free ps ps bs k k j)) p.fewer (λ e. ap free (p.same e));
  same = λ e. absurd (cc);
  none = λ e. absurd (cc);
}

or_is : (a : Bool) → (a || true) ≡ true
or_is true = refl
or_is false = refl

or_none : (a : Bool) → (a || false) ≡ a
or_none true = refl
or_none false = refl

pub passes_next : (ps : List ComponentState) (old bs new : List Bool) (grew b : Bool) (k : ℕ) → k < length bs → Passes ps old bs grew k →
    At k (λ p. b ≡ joins ps bs k p) ps → new ≡ (if b then slice_set bs k true else bs)
    → Passes ps old new (grew || b) (k + 1)
passes_next ps old bs new grew true k l p j e = rw (e, or_is grew) (passes_set ps old bs grew k l p j)
passes_next ps old bs new grew false k l p j e = rw (e, or_none grew) (passes_skip ps old bs grew k p j)

no_join : (b n : Bool) → (not b && n) ≡ false → (b || n) ≡ b
no_join true n e = refl
no_join false n e = e

closed_all : (all : Flagged) (ps : List ComponentState) (bs : List Bool) → length bs ≡ length ps →
    ((j : ℕ) → j < length ps → At j (λ p. (not (get_or bs j false) && needs_flagged p.fitted.hard all) ≡ false) ps) →
    grown all (with_flags ps bs) ≡ with_flags ps bs
closed_all all [] bs m f = refl
closed_all all (p ∷ ps) [] m f = absurd (omega (arith, m))
closed_all all (p ∷ ps) (b ∷ bs) m f =
    let e : (b || needs_flagged p.fitted.hard all) ≡ b = no_join b (needs_flagged p.fitted.hard all) (f zero (omega arith)) in
    let i : grown all (with_flags ps bs) ≡ with_flags ps bs = closed_all all ps bs (omega (arith, m)) (λ j l. f (suc j) (omega arith)) in
    ap (λ (x : Bool). (p, x) ∷ grown all (with_flags ps bs)) e ∙ ap (λ (fs : Flagged). (p, b) ∷ fs) i

pub spreads_of : (ps : List ComponentState) (old bs : List Bool) (grew : Bool) (k : ℕ) → length old ≡ length ps → length ps ≤ k → Passes ps old bs grew k →
    SpreadOutcome ps old bs grew
spreads_of ps old bs grew k m l p = record {
  many = p.many;
  more = p.more;
  under = p.under;
  fewer = p.fewer;
  closed = λ e. subst (λ (cs : List Bool). IsClosedBack (with_flags ps cs)) (sym (p.same e))
      (closed_all (with_flags ps old) ps old m (λ j h. p.none e j (omega (arith, l, h))));
}

-- ---- all passes

pub grows_none : (ps : List ComponentState) (bs : List Bool) → HasSpread ps bs bs
grows_none ps bs = record { many = refl; more = within_refl (with_flags ps bs); under = under_refl ps bs }

pub grows_more : (ps : List ComponentState) (first bs new : List Bool) → HasSpread ps first bs → HasSpread ps bs new → HasSpread ps first new
grows_more ps first bs new g h = record {
  many = h.many ∙ g.many;
  more = trans (with_flags ps first) (with_flags ps bs) (with_flags ps new) g.more h.more;
  under = λ hs w c. h.under hs (g.under hs w c) c;
}

pub grows_spread : (ps : List ComponentState) (first bs new : List Bool) (grew : Bool) → HasSpread ps first bs → SpreadOutcome ps bs new grew
    → HasSpread ps first new
grows_spread ps first bs new grew g s = grows_more ps first bs new g (record { many = s.many; more = s.more; under = s.under })

-- one that needs a flagged one gets a flag
pub grows_join : (ps : List ComponentState) (bs : List Bool) (k : ℕ) → At k (λ p. needs_flagged p.fitted.hard (with_flags ps bs) ≡ true) ps →
    HasSpread ps bs (set bs k true)
grows_join ps bs k n = record {
  many = length-set bs k;
  more = within_set ps bs k;
  under = join_under ps bs bs k (under_refl ps bs) n;
}

with_length : (ps : List ComponentState) (bs : List Bool) → length bs ≡ length ps → length (with_flags ps bs) ≡ length ps
with_length [] bs e = refl
with_length (p ∷ ps) [] e = absurd (omega (arith, e))
with_length (p ∷ ps) (b ∷ bs) e = ap suc (with_length ps bs (omega (arith, e)))

pub reached : (ps : List ComponentState) (first bs : List Bool) → length first ≡ length ps → HasSpread ps first bs → IsClosedBack (with_flags ps bs) →
    with_flags ps bs ≡ reaching (length ps) (with_flags ps first)
reached ps first bs m r c =
    let fs = with_flags ps first in
    let e = with_length ps first m in
    subst (λ (n : ℕ). with_flags ps bs ≡ reaching n fs) e
    (same_flags (with_flags ps bs) (reaching (length fs) fs) (r.under (reaching (length fs) fs) (most (length fs) fs) (closes fs))
    (least (length fs) fs (with_flags ps bs) r.more c))

-- ---- the first flag

none_flagged : (ps : List ComponentState) → with_flags ps (replicate (length ps) false) ≡ flagged (λ q. false) ps
none_flagged [] = refl
none_flagged (p ∷ ps) = ap (λ (fs : Flagged). (p, false) ∷ fs) (none_flagged ps)

flag_at_place : (ps : List ComponentState) (k : ℕ) → with_flags ps (set (replicate (length ps) false) k true) ≡ flagged_at k ps
flag_at_place [] k = refl
flag_at_place (p ∷ ps) zero = ap (λ (fs : Flagged). (p, true) ∷ fs) (none_flagged ps)
flag_at_place (p ∷ ps) (suc k) = ap (λ (fs : Flagged). (p, false) ∷ fs) (flag_at_place ps k)

pub flag_at_one : (ps : List ComponentState) (n k : ℕ) → length ps ≡ n → with_flags ps (set (replicate n false) k true) ≡ flagged_at k ps
flag_at_one ps n k e = subst (λ (m : ℕ). with_flags ps (set (replicate m false) k true) ≡ flagged_at k ps) e (flag_at_place ps k)

-- ---- marks

abbrev pub mark_one : Bool → (ComponentState → Bool) → ComponentState → ComponentState
mark_one b may p = if b && may p then record p { stop = Some after.Restart } else p

pub marks_more : (may : ComponentState → Bool) (xs ys : List ComponentState) (bs : List Bool) (k : ℕ) (d t : ComponentState) → length bs ≡ length xs →
    k < length xs → t ≡ mark_one (get_or bs k false) may (get_or ys k d)
    → take k ys ≡ take k (marked may (with_flags xs bs)) → drop k ys ≡ drop k xs
    → (take (k + 1) (set ys k t) ≡ take (k + 1) (marked may (with_flags xs bs))) × (drop (k + 1) (set ys k t) ≡ drop (k + 1) xs)
marks_more may [] ys bs k d t m l h a b = absurd (omega (arith, l))
marks_more may (x ∷ xs) ys [] k d t m l h a b = absurd (omega (arith, m))
marks_more may (x ∷ xs) [] (c ∷ cs) zero d t m l h a b = absurd (cc)
marks_more may (x ∷ xs) [] (c ∷ cs) (suc k) d t m l h a b = absurd (cc)
marks_more may (x ∷ xs) (y ∷ ys) (c ∷ cs) zero d t m l h a b =
    let r : y ≡ x = cc in let s : ys ≡ xs = cc in
    (ap (λ (p : ComponentState). p ∷ []) (h ∙ ap (mark_one c may) r), s)
marks_more may (x ∷ xs) (y ∷ ys) (c ∷ cs) (suc k) d t m l h a b =
    let e : y ≡ mark_one c may x = cc in
    let f : take k ys ≡ take k (marked may (with_flags xs cs)) = cc in
    let i = marks_more may xs ys cs k d t (omega (arith, m)) (omega (arith, l)) h f b in
    rw add-one (
      let j = rw add-one at i.0 in ap (λ (p : ComponentState). p ∷ take (suc k) (set ys k t)) e ∙ ap
          (λ (ps : List ComponentState). mark_one c may x ∷ ps) j,
      rw add-one at i.1,
    )

marked_length : (may : ComponentState → Bool) (xs : List ComponentState) (bs : List Bool) → length bs ≡ length xs → length (marked may (with_flags xs bs))
    ≡ length xs
marked_length may [] bs e = refl
marked_length may (x ∷ xs) [] e = absurd (omega (arith, e))
marked_length may (x ∷ xs) (b ∷ bs) e = ap suc (marked_length may xs bs (omega (arith, e)))

pub marks_whole : (may : ComponentState → Bool) (xs ys : List ComponentState) (bs : List Bool) (k : ℕ) → length bs ≡ length xs → length ys ≡ length xs →
    length xs ≤ k → take k ys ≡ take k (marked may (with_flags xs bs)) → ys ≡ marked may (with_flags xs bs)
marks_whole may xs ys bs k m n l e =
    let f = marked_length may xs bs m in
    sym (take_all k ys (omega (arith, n, l))) ∙ e ∙ take_all k (marked may (with_flags xs bs)) (omega (arith, f, l))

-- ---- a search for a flag

pub flagged_skip : (n : List ℕ) (ps : List ComponentState) (bs : List Bool) (k : ℕ) → k < length bs →
    At k (λ p. false ≡ (get_or bs k false && bytes_eq (component_name p) n)) ps
    → is_flagged n (with_flags (drop k ps) (drop k bs)) ≡ is_flagged n (with_flags (drop (k + 1) ps) (drop (k + 1) bs))
flagged_skip n [] bs k l h = absurd h
flagged_skip n (p ∷ ps) [] k l h = absurd (omega (arith, l))
flagged_skip n (p ∷ ps) (b ∷ bs) zero l h = ap (λ (x : Bool). x || is_flagged n (with_flags ps bs)) (sym h)
flagged_skip n (p ∷ ps) (b ∷ bs) (suc k) l h = rw add-one (rw add-one at (flagged_skip n ps bs k (omega (arith, l)) h))

pub flagged_here : (n : List ℕ) (ps : List ComponentState) (bs : List Bool) (k : ℕ) → k < length bs →
    At k (λ p. true ≡ (get_or bs k false && bytes_eq (component_name p) n)) ps → true ≡ is_flagged n (with_flags (drop k ps) (drop k bs))
flagged_here n [] bs k l h = absurd h
flagged_here n (p ∷ ps) [] k l h = absurd (omega (arith, l))
flagged_here n (p ∷ ps) (b ∷ bs) zero l h = ap (λ (x : Bool). x || is_flagged n (with_flags ps bs)) h
flagged_here n (p ∷ ps) (b ∷ bs) (suc k) l h = flagged_here n ps bs k (omega (arith, l)) h

-- ---- all marks of one failure

length_flagged : (t : ComponentState → Bool) (ps : List ComponentState) → length (flagged t ps) ≡ length ps
length_flagged t [] = refl
length_flagged t (p ∷ ps) = ap suc (length_flagged t ps)

length_flagged_at : (k : ℕ) (ps : List ComponentState) → length (flagged_at k ps) ≡ length ps
length_flagged_at k [] = refl
length_flagged_at zero (p ∷ ps) = ap suc (length_flagged (λ q. false) ps)
length_flagged_at (suc k) (p ∷ ps) = ap suc (length_flagged_at k ps)

pub restarted_is : (ps new : List ComponentState) (k : ℕ) (fs hs : Flagged) → new ≡ marked (may_by false) hs → hs ≡ reaching (length ps) fs →
    fs ≡ flagged_at k ps → new ≡ restarted may_restart (flagged_at k ps)
restarted_is ps new k fs hs e r f =
    e ∙ ap (marked may_restart) (r ∙ ap (reaching (length ps)) f ∙ ap (λ (n : ℕ). reaching n (flagged_at k ps)) (sym (length_flagged_at k ps)))

pub replanned_is : (ps new : List ComponentState) (fs hs : Flagged) → new ≡ marked (may_by true) hs → hs ≡ reaching (length ps) fs →
    fs ≡ flagged is_replacing ps → new ≡ replanned ps
replanned_is ps new fs hs e r f =
    e ∙ ap (marked may_replan) (r ∙ ap (reaching (length ps)) f ∙ ap (λ (n : ℕ). reaching n (flagged is_replacing ps)) (sym (length_flagged is_replacing ps)))
