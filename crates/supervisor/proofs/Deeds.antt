-- What a component has to do in its turn, and that it is what is handed out next.
use Rattle.std.proofs.Common.{◌≡◌, ◌<◌, ◌+◌, ◌==◌, ℕ, suc, zero, List, [], ◌∷◌, ◌++◌, Bool, true, false, Option, Some, None, refl, sym, ap, ◌∙◌, arith, subst}
use Rattle.std.proofs.Common.{map, take, length, add-one, inl, inr}
use Rattle.std.specs.Prelude.{◌||◌, if◌then◌else◌, IfSome, IsSomeAnd, is_some, slice_get}
use Rattle.std.specs.List.{list_any}
use Rattle.std.specs.Str.{bytes_eq}
use Rattle.std.proofs.lemmas.Bool.{or_parts, or_left, or_right, or_cases, or_from, and_from, eq-eqb, eqb-true}
use Rattle.nuc_base.specs.declared.kinds.Step.{Step}
use Rattle.nuc_base.specs.declared.kinds.Exit.{Exit}
use Rattle.lifecycle.specs.declared.kinds.After.{After}
use Rattle.lifecycle.specs.declared.kinds.LifeEvent.{LifeEvent}
use Rattle.lifecycle.specs.declared.kinds.LifeEvent.TheVariants as event
use Rattle.components.specs.Components.{Components, ComponentState, Child, At, component_name, place_of, place_from, changed_at, owner, owner_from, child_of}
use Rattle.components.specs.Components.{is_orphan, is_broken, has_orphan}
use Rattle.components.specs.Deadlines.{has_passed}
use Rattle.components.specs.Turns.{may_act, may_begin, may_retry, may_stop, is_late, is_to_start, owes, IsNext}
use Rattle.components.specs.Rows.{is_stop_ready}
use Rattle.components.specs.Lives.{lived_at}
use Rattle.components.specs.Events.{handed_at, killed, heard_at, is_late_child, gone_by, kill_event_at}
use Rattle.components.specs.Acts.{MayMove, MayKill, HasStart, kills, spares, is_stop_due, is_kill_due, Move, MovesInOrder, HandsOut, NextAct, OwesAt}
use Rattle.components.specs.Answers.{living_numbers, child_numbers}
use Rattle.components.specs.Readied.{AreApart, AreNamesApart, IsKept}
use Rattle.components.specs.Whole.{AreWhole, work}
use Rattle.components.specs.Flags.{at_moment}
use Rattle.supervisor.specs.Deeds.{kills_by, IsAmong, IsFor, has_deed, MayDo, IsFirst, IsDone, IsOwed}
use Rattle.supervisor.specs.declared.acting.Deed.{Deed}
use Rattle.supervisor.specs.declared.acting.Deed.TheVariants.{Moves, Starts, Kills}
use Rattle.components.specs.declared.kinds.Act.{Act}
use Rattle.components.specs.declared.kinds.Act.TheVariants as acts
use Rattle.components.proofs.Each.{at_below, length_changed}
use Rattle.supervisor.proofs.Goings.{killed_whole, handed_whole, told_whole}
use Rattle.components.proofs.Kept.{kept_kids, kept_lived, kept_gone}
use Rattle.components.proofs.Kids.{kids_changed}
use Rattle.components.proofs.Names.{stay_changed, flips, name_same}
use Rattle.components.proofs.Whole.{plain_whole, apart_at, apart_first, apart_last}
use Rattle.components.proofs.Moved.{move_owes, move_works, move_no_launch}

-- ---- children by their numbers

among_number : (c : Child) (cs : List Child) → IsAmong c cs → list_any (λ m. m == c.number) (child_numbers cs) ≡ true
among_number c [] h = absurd h
among_number c (d ∷ ds) (inl e) = or_left (d.number == c.number) (list_any (λ m. m == c.number) (child_numbers ds))
    (eq-eqb d.number c.number (ap (λ (x : Child). x.number) (sym e)))
among_number c (d ∷ ds) (inr h) = or_right (d.number == c.number) (list_any (λ m. m == c.number) (child_numbers ds)) (among_number c ds h)

among_more : (n : ℕ) (xs ys : List ℕ) → list_any (λ m. m == n) xs ≡ true → list_any (λ m. m == n) (xs ++ ys) ≡ true
among_more n [] ys e = absurd (cc)
among_more n (x ∷ xs) ys e = elim (or_cases (x == n) (list_any (λ m. m == n) xs) e) [
  | inl y ↦ or_left (x == n) (list_any (λ m. m == n) (xs ++ ys)) y
  | inr y ↦ or_right (x == n) (list_any (λ m. m == n) (xs ++ ys)) (among_more n xs ys y)
]

among_later : (n : ℕ) (xs ys : List ℕ) → list_any (λ m. m == n) ys ≡ true → list_any (λ m. m == n) (xs ++ ys) ≡ true
among_later n [] ys e = e
among_later n (x ∷ xs) ys e = or_right (x == n) (list_any (λ m. m == n) (xs ++ ys)) (among_later n xs ys e)

clash : {A : Type 0} (b : Bool) → b ≡ true → b ≡ false → A
clash true e f = absurd (cc)
clash false e f = absurd (cc)

child_at : (b : Bool) (c d : Child) (ds : List Child) → (d.number == c.number) ≡ b → list_any (λ m. m == d.number) (child_numbers ds) ≡ false → IsAmong c ds →
    child_of c.number ds ≡ Some c
    → ◌≡◌ {A = Option Child} (if b then Some d else child_of c.number ds) (Some c)
child_at true c d ds e n h i = clash (list_any (λ m. m == d.number) (child_numbers ds))
    (subst (λ (k : ℕ). list_any (λ m. m == k) (child_numbers ds) ≡ true) (sym (eqb-true d.number c.number e)) (among_number c ds h)) n
child_at false c d ds e n h i = i

-- it is the one of its number
child_is : (c : Child) (cs : List Child) → AreApart (child_numbers cs) → IsAmong c cs → child_of c.number cs ≡ Some c
child_is c [] a h = absurd h
child_is c (d ∷ ds) a (inl e) =
    let n : (d.number == c.number) ≡ true = eq-eqb d.number c.number (ap (λ (x : Child). x.number) (sym e)) in
    rw n (ap (λ (x : Child). Some x) (sym e))
child_is c (d ∷ ds) a (inr h) = child_at (d.number == c.number) c d ds refl a.0 h (child_is c ds a.1 h)

no_child : (n : ℕ) (cs : List Child) → list_any (λ m. m == n) (child_numbers cs) ≡ false → child_of n cs ≡ None
no_child n [] e = refl
no_child n (c ∷ cs) e = let x = or_parts (c.number == n) (list_any (λ m. m == n) (child_numbers cs)) e in rw x.0 (no_child n cs x.1)

apart_at_head : (b : Bool) (x n : ℕ) (xs ys : List ℕ) → (x == n) ≡ b → list_any (λ m. m == x) (xs ++ ys) ≡ false → list_any (λ m. m == n) ys ≡ true →
    list_any (λ m. m == n) xs ≡ false
    → (b || list_any (λ m. m == n) xs) ≡ false
apart_at_head true x n xs ys q o e i = clash (list_any (λ m. m == x) (xs ++ ys))
    (among_later x xs ys (subst (λ (k : ℕ). list_any (λ m. m == k) ys ≡ true) (sym (eqb-true x n q)) e)) o
apart_at_head false x n xs ys q o e i = i

all_apart : (xs ys : List ℕ) → AreApart (xs ++ ys) → (n : ℕ) → list_any (λ m. m == n) ys ≡ true → list_any (λ m. m == n) xs ≡ false
all_apart [] ys a n e = refl
all_apart (x ∷ xs) ys a n e = apart_at_head (x == n) x n xs ys refl a.0 e (all_apart xs ys a.1 n e)

number_there : (k : ℕ) (ps : List ComponentState) (p : ComponentState) (c : Child) → slice_get ps k ≡ Some p → IsAmong c p.children →
    list_any (λ m. m == c.number) (living_numbers ps) ≡ true
number_there k [] p c e h = absurd (cc)
number_there zero (q ∷ ps) p c e h = let r : p ≡ q = cc in among_more c.number (child_numbers q.children) (living_numbers ps)
    (among_number c q.children (subst (λ (x : ComponentState). IsAmong c x.children) r h))
number_there (suc k) (q ∷ ps) p c e h = among_later c.number (child_numbers q.children) (living_numbers ps) (number_there k ps p c e h)

-- its owner
owner_from_is : (j k i : ℕ) (ps : List ComponentState) (p : ComponentState) (c : Child) → j + k ≡ i → AreApart (living_numbers ps) → slice_get ps k ≡ Some p →
    IsAmong c p.children → owner_from j c.number ps ≡ Some (i, c.of)
owner_from_is j k i [] p c s a e h = absurd (cc)
owner_from_is j zero i (q ∷ ps) p c s a e h =
    let r : p ≡ q = cc in
    let x = child_is c q.children (apart_first (child_numbers q.children) (living_numbers ps) a) (subst (λ (y : ComponentState). IsAmong c y.children) r h) in
    let t : j ≡ i = omega (arith, s) in
    ap (λ (o : Option Child). elim o [ None ↦ owner_from (j + 1) c.number ps | Some d ↦ Some (j, d.of) ]) x ∙ ap (λ (n : ℕ). Some (n, c.of)) t
owner_from_is j (suc k) i (q ∷ ps) p c s a e h =
    let x = no_child c.number q.children (all_apart (child_numbers q.children) (living_numbers ps) a c.number (number_there k ps p c e h)) in
    ap (λ (o : Option Child). elim o [ None ↦ owner_from (j + 1) c.number ps | Some d ↦ Some (j, d.of) ]) x ∙ owner_from_is (j + 1) k i ps p c
    (omega (arith, s)) (apart_last (child_numbers q.children) (living_numbers ps) a) e h

-- ---- what it has to do may be done

pub at_from : (P : ComponentState → Type 0) (k : ℕ) (ps : List ComponentState) (p : ComponentState) → slice_get ps k ≡ Some p → P p → At k P ps
at_from P k ps p e h = subst (λ (o : Option ComponentState). IsSomeAnd o P) (sym e) h

some_is : (st : Option After) (a : After) (p : ComponentState) → st ≡ Some a → IfSome st (λ b. (p.stop ≡ Some b) × (is_stop_ready p ≡ true)) → p.stop ≡ Some a
some_is st a p e h = (subst (λ (o : Option After). IfSome o (λ b. (p.stop ≡ Some b) × (is_stop_ready p ≡ true))) e h).0

stop_due_by : (w : Components) (p : ComponentState) (st : Option After) → IfSome st (λ b. (p.stop ≡ Some b) × (is_stop_ready p ≡ true)) →
    is_some st ≡ may_stop w p → kills_by st p ≡ true → is_stop_due w p ≡ true
stop_due_by w p None g m h = absurd (cc)
stop_due_by w p (Some a) g m h =
    and_from (may_stop w p) (elim p.stop [ None ↦ false | Some b ↦ kills (event.Stop b) p ]) (sym m)
    (ap (λ (o : Option After). elim o [ None ↦ false | Some b ↦ kills (event.Stop b) p ]) g.0 ∙ h)

late_is : (m n : ℕ) (p : ComponentState) (c : Child) → child_of n p.children ≡ Some c → has_passed m c.deadline ≡ true → is_late_child m n p ≡ true
late_is m n p c e h = ap (λ (o : Option Child). elim o [ None ↦ false | Some d ↦ has_passed m d.deadline ]) e ∙ h

pub may_do : (w : Components) (k : ℕ) (p : ComponentState) (b : Bool) (st : Option After) (d : Deed) → AreApart (living_numbers w.parts) →
    slice_get w.parts k ≡ Some p → b ≡ may_begin w p
    → IfSome st (λ a. (p.stop ≡ Some a) × (is_stop_ready p ≡ true)) → is_some st ≡ may_stop w p → IsFor w.moment b st p d → MayDo w k d
may_do w k p b st (Moves event.MayBegin) a e g s t f = at_from (λ q. may_begin w q ≡ true) k w.parts p e (sym g ∙ f)
may_do w k p b st (Moves event.Retry) a e g s t f = at_from (λ q. may_retry q ≡ true) k w.parts p e f
may_do w k p b st (Moves (event.Stop x)) a e g s t f =
    at_from (λ q. (may_stop w q ≡ true) × (q.stop ≡ Some x) × (spares (event.Stop x) q ≡ true)) k w.parts p e
    (sym t ∙ ap (λ (o : Option After). is_some o) f.0, some_is st x p f.0 s, f.1)
may_do w k p b st (Moves event.Launched) a e g s t f = absurd f
may_do w k p b st (Moves event.Skipped) a e g s t f = absurd f
may_do w k p b st (Moves (event.Ended x y)) a e g s t f = absurd f
may_do w k p b st (Starts x) a e g s t f = at_from (HasStart x) k w.parts p e f
may_do w k p b st (Kills n) a e g s t f =
    let c : Child = f.child in
    let number = f.number in
    let o : owner n w.parts ≡ Some (k, c.of) = subst (λ (m : ℕ). owner m w.parts ≡ Some (k, c.of)) number
    (owner_from_is 0 k k w.parts p c (omega arith) a e f.here) in
    let i : child_of n p.children ≡ Some c = subst (λ (m : ℕ). child_of m p.children ≡ Some c) number
    (child_is c p.children (apart_at k w.parts p a e) f.here) in (
      c.of,
      (
        o,
        at_from (λ q. is_kill_due w n c.of q ≡ true) k w.parts p e
            (elim (or_cases (has_passed w.moment c.deadline) (is_orphan p.life c.of || kills_by st p) f.passes) [
              | inl x ↦ or_left (is_late_child w.moment n p) (is_orphan p.life c.of || is_stop_due w p) (late_is w.moment n p c i x)
              | inr x ↦ or_right (is_late_child w.moment n p) (is_orphan p.life c.of || is_stop_due w p)
                  (elim (or_cases (is_orphan p.life c.of) (kills_by st p) x) [
                    | inl y ↦ or_left (is_orphan p.life c.of) (is_stop_due w p) y
                    | inr y ↦ or_right (is_orphan p.life c.of) (is_stop_due w p) (stop_due_by w p st s t y)
                  ])
            ]),
      ),
    )

pub no_deed : (w : Components) (p : ComponentState) (b : Bool) (st : Option After) → b ≡ may_begin w p → is_some st ≡ may_stop w p →
    has_deed w.moment b st p ≡ false → may_act w p ≡ false
no_deed w p b st g t h =
    ap (λ (x : Bool). (x || may_retry p) || (is_late w.moment p || (may_stop w p || (has_orphan p || is_to_start p)))) (sym g)
    ∙ ap (λ (x : Bool). (b || may_retry p) || (is_late w.moment p || (x || (has_orphan p || is_to_start p)))) (sym t)
    ∙ h

-- ---- what is kept by what is handed out

killed_by : (o : Option (ℕ × Step)) (n : ℕ) (w : Components) → IsKept w →
    IsKept (elim o [ None ↦ w | Some x ↦ gone_by (kill_event_at x.0 x.1 n w) x.0 x.1 n w ])
killed_by None n w h = h
killed_by (Some x) n w h = kept_gone (kill_event_at x.0 x.1 n w) x.0 x.1 n w h

kept_killed : (n : ℕ) (w : Components) → IsKept w → IsKept (killed n w)
kept_killed n w h = killed_by (owner n w.parts) n w h

kept_handed : (k : ℕ) (w : Components) → IsKept w → IsKept (handed_at k w)
kept_handed k w h = kept_kids w (handed_at k w) h (kids_changed (λ p. record p { handed = true }) (λ p. refl) k w.parts)
    (stay_changed (λ p. record p { handed = true }) (λ p i. (refl, i)) k w.parts h.named) refl

kept_told : (k : ℕ) (w : Components) → IsKept w → IsKept (heard_at k w)
kept_told k w h = kept_kids w (heard_at k w) h (kids_changed (λ p. record p { owed = None }) (λ p. refl) k w.parts)
    (stay_changed (λ p. record p { owed = None }) (λ p i. (refl, i)) k w.parts h.named) refl

-- the components with what is kept of them
pub record AreSound (w : Components) : Type 0 where
  pub kept : IsKept w
  pub whole : AreWhole w.parts

-- ---- moves that leave nothing outside, one after another

quietly_more : (w v : Components) (ms : List Move) (k : ℕ) (e : LifeEvent) → MovesInOrder w ms v → IsNext v k → MayMove v k e →
    MovesInOrder w (ms ++ record { who = k; what = e } ∷ []) (lived_at k e v)
quietly_more w v [] k e q n m = (
  subst (λ (u : Components). IsNext u k) q n,
  subst (λ (u : Components). MayMove u k e) q m,
  ap (λ (u : Components). lived_at k e u) q,
)
quietly_more w v (x ∷ ms) k e q n m = (q.0, q.1, quietly_more (lived_at x.who x.what w) v ms k e q.2 n m)

-- how far the components have come
pub record Turns (w v : Components) : Type 0 where
  pub sound : AreSound v
  pub owes_none : list_any owes v.parts ≡ false
  pub made : List Move
  pub quietly : MovesInOrder w made v

pub no_turns : (w : Components) → IsKept w → AreWhole w.parts → list_any owes w.parts ≡ false → Turns w w
no_turns w h a t = record { sound = record { kept = h; whole = a }; owes_none = t; made = []; quietly = refl }

is_next : (w v : Components) (k : ℕ) (d : Deed) → Turns w v → IsFirst v (Some (k, d)) → IsNext v k
is_next w v k d t f = record { owes_none = t.owes_none; least = f.0 }

pub turn_more : (w v u : Components) (k : ℕ) (d : Deed) (act : Option Act) → Turns w v → IsFirst v (Some (k, d)) → IsDone v k d act u → is_some act ≡ false →
    Turns w u × (work u.parts < work v.parts)
turn_more w v u k (Moves e) act t f d n =
    let i : u ≡ lived_at k e v = d.1 in (
      record {
        sound = subst AreSound (sym i) (record { kept = kept_lived k e v t.sound.kept; whole = plain_whole k e v (move_no_launch v k e f.1) t.sound.whole });
        owes_none = subst (λ (x : Components). list_any owes x.parts ≡ false) (sym i) (move_owes v k e f.1 t.owes_none);
        made = t.made ++ record { who = k; what = e } ∷ [];
        quietly = subst (MovesInOrder w (t.made ++ record { who = k; what = e } ∷ [])) (sym i)
            (quietly_more w v t.made k e t.quietly (is_next w v k (Moves e) t f) f.1);
      },
      subst (λ (x : Components). work x.parts < work v.parts) (sym i) (move_works v k e f.1),
    )
turn_more w v u k (Starts s) act t f d n = clash (is_some act) (ap (λ (o : Option Act). is_some o) d.0) n
turn_more w v u k (Kills m) act t f d n = clash (is_some act) (ap (λ (o : Option Act). is_some o) d.0) n

pub turn_last : (w v u : Components) (k : ℕ) (d : Deed) (act : Option Act) → Turns w v → IsFirst v (Some (k, d)) → IsDone v k d act u → is_some act ≡ true →
    NextAct w act u × AreSound u
turn_last w v u k (Moves e) act t f d n = clash (is_some act) n (ap (λ (o : Option Act). is_some o) d.0)
turn_last w v u k (Starts s) act t f d n = (
  record {
    made = t.made;
    seen = v;
    quietly = t.quietly;
    hands = subst (λ (o : Option Act). HandsOut v o u) (sym d.0) (
      is_next w v k (Starts s) t f,
      f.1,
      d.1,
    );
  },
  subst AreSound (sym d.1) (record { kept = kept_handed k v t.sound.kept; whole = handed_whole true k v.parts t.sound.whole }),
)
turn_last w v u k (Kills m) act t f d n =
    let x = f.1 in (
      record {
        made = t.made;
        seen = v;
        quietly = t.quietly;
        hands = subst (λ (o : Option Act). HandsOut v o u) (sym d.0)
            (k, x.0, is_next w v k (Kills m) t f, x.1, d.1);
      },
      subst AreSound (sym d.1) (record { kept = kept_killed m v t.sound.kept; whole = killed_whole m k x.0 v t.sound.whole t.sound.kept.apart x.1 }),
    )

pub turns_over : (w v : Components) → Turns w v → IsFirst v None → NextAct w None v
turns_over w v t f = record { made = t.made; seen = v; quietly = t.quietly; hands = (record { owes_none = t.owes_none; none = f }, refl) }

-- ---- failures

-- it is the first one of its name
pub place_is : (j k : ℕ) (p : ComponentState) (ps : List ComponentState) → slice_get ps k ≡ Some p → AreNamesApart (map component_name ps) →
    place_from j (component_name p) ps ≡ Some (j + k)
place_is j k p [] e u = absurd (cc)
place_is j zero p (q ∷ ps) e u =
    let r : q ≡ p = cc in
    let s : bytes_eq (component_name p) (component_name q) ≡ true = name_same (component_name p) (component_name q)
    (ap (λ (x : ComponentState). component_name x) (sym r)) in
    rw s (ap (λ (n : ℕ). Some n) (let t : j ≡ j + 0 = omega arith in t))
place_is j (suc k) p (q ∷ ps) e u =
    let s : bytes_eq (component_name p) (component_name q) ≡ false = flips (component_name p) (component_name q) ∙ other_name k ps e (component_name q) u.0 in
    rw s (place_is (j + 1) k p ps e u.1 ∙ ap (λ (n : ℕ). Some n) (let t : (j + 1) + k ≡ j + suc k = omega arith in t)) where
      other_name : (i : ℕ) (qs : List ComponentState) → slice_get qs i ≡ Some p → (n : List ℕ) → list_any (bytes_eq n) (map component_name qs) ≡ false →
          bytes_eq n (component_name p) ≡ false
      other_name i [] g n h = absurd (cc)
      other_name zero (x ∷ qs) g n h = let r : x ≡ p = cc in subst (λ (y : ComponentState). bytes_eq n (component_name y) ≡ false) r
          (or_parts (bytes_eq n (component_name x)) (list_any (bytes_eq n) (map component_name qs)) h).0
      other_name (suc i) (x ∷ qs) g n h = other_name i qs g n (or_parts (bytes_eq n (component_name x)) (list_any (bytes_eq n) (map component_name qs)) h).1

pub part_at : (P : ComponentState → Type 0) (k : ℕ) (ps : List ComponentState) → At k P ps → (p : ComponentState) × (slice_get ps k ≡ Some p) × P p
part_at P k ps h = by_part (slice_get ps k) refl h where
  by_part : (o : Option ComponentState) → slice_get ps k ≡ o → IsSomeAnd o P → (p : ComponentState) × (slice_get ps k ≡ Some p) × P p
  by_part None e i = absurd i
  by_part (Some p) e i = (p, e, i)

owes_at : (w : Components) (k : ℕ) (s : Step) (e : Exit) (b : Bool) → AreNamesApart (map component_name w.parts) →
    At k (λ p. (p.owed ≡ Some (s, e)) × (is_broken p.life.state ≡ b)) w.parts → OwesAt w k s e b
owes_at w k s e b u h =
    let x = part_at (λ p. (p.owed ≡ Some (s, e)) × (is_broken p.life.state ≡ b)) k w.parts h in
    let y = x.2 in
    at_from (λ p. (p.owed ≡ Some (s, e)) × (is_broken p.life.state ≡ b) × (place_of (component_name p) w.parts ≡ Some k)) k w.parts x.0 x.1
    (y.0, y.1, place_is 0 k x.0 w.parts x.1 u ∙ ap (λ (n : ℕ). Some n) (let z : 0 + k ≡ k = omega arith in z))

pub tells : (w v : Components) (k : ℕ) (act : Act) → AreNamesApart (map component_name w.parts) → IsOwed k w.parts act → v ≡ heard_at k w →
    HandsOut w (Some act) v
tells w v k (acts.Start i t) u o h = absurd o
tells w v k (acts.Kill n) u o h = absurd o
tells w v k (acts.Failed i t e) u o h = (
  owes_at w i t e false u
      (subst (λ (j : ℕ). At j (λ p. (p.owed ≡ Some (t, e)) × (is_broken p.life.state ≡ false)) w.parts) (sym o.0) o.1),
  h ∙ ap (λ (j : ℕ). heard_at j w) (sym o.0),
)
tells w v k (acts.Broke i t e) u o h = (
  owes_at w i t e true u
      (subst (λ (j : ℕ). At j (λ p. (p.owed ≡ Some (t, e)) × (is_broken p.life.state ≡ true)) w.parts) (sym o.0) o.1),
  h ∙ ap (λ (j : ℕ). heard_at j w) (sym o.0),
)

pub told_sound : (k : ℕ) (w v : Components) → v ≡ heard_at k w → AreSound w → AreSound v
told_sound k w v e s = subst AreSound (sym e) (record { kept = kept_told k w s.kept; whole = told_whole k w.parts s.whole })

pub told_length : (k : ℕ) (ps qs : List ComponentState) → qs ≡ changed_at k (λ p. record p { owed = None }) ps → length qs ≡ length ps
told_length k ps qs e = ap length e ∙ length_changed k (λ p. record p { owed = None }) ps

pub next_told : (w v : Components) (act : Act) → HandsOut w (Some act) v → NextAct w (Some act) v
next_told w v act h = record { made = []; seen = w; quietly = refl; hands = h }

-- ---- its place

kill_below : (w : Components) (n k : ℕ) (t : Step) → MayKill w n k t → k < length w.parts
kill_below w n k t m = at_below (λ p. is_kill_due w n t p ≡ true) w.parts k m.1

pub do_below : (w : Components) (k : ℕ) (d : Deed) → MayDo w k d → k < length w.parts
do_below w k (Moves event.MayBegin) m = at_below (λ p. may_begin w p ≡ true) w.parts k m
do_below w k (Moves event.Retry) m = at_below (λ p. may_retry p ≡ true) w.parts k m
do_below w k (Moves (event.Stop a)) m = at_below (λ p. (may_stop w p ≡ true) × (p.stop ≡ Some a) × (spares (event.Stop a) p ≡ true)) w.parts k m
do_below w k (Moves event.Launched) m = absurd m
do_below w k (Moves event.Skipped) m = absurd m
do_below w k (Moves (event.Ended s e)) m = absurd m
do_below w k (Starts t) m = at_below (HasStart t) w.parts k m
do_below w k (Kills n) m = kill_below w n k m.0 m.1

pub owed_below : (k : ℕ) (ps : List ComponentState) (act : Act) → IsOwed k ps act → k < length ps
owed_below k ps (acts.Start i t) o = absurd o
owed_below k ps (acts.Kill n) o = absurd o
owed_below k ps (acts.Failed i t e) o = at_below (λ p. (p.owed ≡ Some (t, e)) × (is_broken p.life.state ≡ false)) ps k o.1
owed_below k ps (acts.Broke i t e) o = at_below (λ p. (p.owed ≡ Some (t, e)) × (is_broken p.life.state ≡ true)) ps k o.1

-- ---- a search for the first one

pub more_none : (f : ComponentState → Bool) (k : ℕ) (ps : List ComponentState) → list_any f (take k ps) ≡ false → At k (λ p. f p ≡ false) ps →
    list_any f (take (k + 1) ps) ≡ false
more_none f k [] h a = absurd a
more_none f zero (p ∷ ps) h a = rw a refl
more_none f (suc k) (p ∷ ps) h a =
    let x = or_parts (f p) (list_any f (take k ps)) h in
    rw add-one (or_from (f p) (list_any f (take (suc k) ps)) x.0 (rw add-one at (more_none f k ps x.1 a)))

-- ---- by what is answered

pub no_deed_by : (w : Components) (p : ComponentState) (b : Bool) (st : Option After) (d : Option Deed) → b ≡ may_begin w p → is_some st ≡ may_stop w p →
    d ≡ None → is_some d ≡ has_deed w.moment b st p → may_act w p ≡ false
no_deed_by w p b st d g t n e = no_deed w p b st g t (sym e ∙ ap (λ (o : Option Deed). is_some o) n)

pub may_do_all : (w : Components) (k : ℕ) (p : ComponentState) (b : Bool) (st : Option After) (d : Option Deed) → AreApart (living_numbers w.parts) →
    slice_get w.parts k ≡ Some p → b ≡ may_begin w p
    → IfSome st (λ a. (p.stop ≡ Some a) × (is_stop_ready p ≡ true)) → is_some st ≡ may_stop w p → IfSome d (IsFor w.moment b st p) → IfSome d (MayDo w k)
may_do_all w k p b st None a e g s t f = tt
may_do_all w k p b st (Some d) a e g s t f = may_do w k p b st d a e g s t f

-- ---- the mode makes no difference to what may be done

do_in_any : (ps : List ComponentState) (m k : ℕ) (s t : Bool) (d : Deed) → MayDo (at_moment ps m s) k d → MayDo (at_moment ps m t) k d
do_in_any ps m k s t (Moves event.MayBegin) h = h
do_in_any ps m k s t (Moves event.Retry) h = h
do_in_any ps m k s t (Moves (event.Stop a)) h = h
do_in_any ps m k s t (Moves event.Launched) h = absurd h
do_in_any ps m k s t (Moves event.Skipped) h = absurd h
do_in_any ps m k s t (Moves (event.Ended x y)) h = absurd h
do_in_any ps m k s t (Starts x) h = h
do_in_any ps m k s t (Kills n) h = (h.0, h.1)

pub none_in_any : (ps : List ComponentState) (m : ℕ) (s t : Bool) → IsFirst (at_moment ps m s) None → IsFirst (at_moment ps m t) None
none_in_any ps m s t f = f

pub first_in_any : (ps : List ComponentState) (m k : ℕ) (s t : Bool) (d : Deed) → IsFirst (at_moment ps m s) (Some (k, d)) →
    IsFirst (at_moment ps m t) (Some (k, d))
first_in_any ps m k s t d f = (f.0, do_in_any ps m k s t d f.1)
