-- A change to other items gives what is kept, whoever stands.
use Rattle.std.proofs.Common.{◌≡◌, ◌<◌, ◌+◌, ℕ, List, [], ◌∷◌, length, map, Option, Some, None, is_some, Bool, true, false, refl, sym, ap, ◌∙◌, ◌⊎◌, inl, inr}
use Rattle.std.proofs.Common.{arith, subst}
use Rattle.std.specs.Prelude.{◌&&◌, ◌||◌, not, if◌then◌else◌, IfSome, filter}
use Rattle.std.specs.List.{AllByRecursion, list_any}
use Rattle.std.specs.Str.{bytes_eq}
use Rattle.std.proofs.lemmas.Bool.{and_from, and_parts, or_parts}
use Rattle.std.proofs.lemmas.Slice.Eq.{bytes_eq-Decides}
use Rattle.lifecycle.specs.Awaits.{is_stopping}
use Rattle.lifecycle.specs.Life.{Life}
use Rattle.lifecycle.specs.declared.kinds.After.TheVariants as after
use Rattle.components.specs.Changes.{Coming, coming_again, coming_for, counted, fresh_part, is_replaced, is_replacing, leaving, newcomers, replanned}
use Rattle.components.specs.Changes.{standing, staying, with_newcomers, with_texts, changed_to, fate, meeting, replacing}
use Rattle.components.specs.Components.{Child, ComponentState, Components, is_again, is_broken, is_gone, is_leaving, is_spared, component_name}
use Rattle.components.specs.Components.{stops_for_good, under_way}
use Rattle.components.specs.Fitted.{Fitted, is_same_item, name_of}
use Rattle.components.specs.Marks.{Flagged, flagged, may_replan, reaching}
use Rattle.components.specs.Turns.{is_met, hard_needs, coming_needs}
use Rattle.law_supervisor.specs.Sound.{HaveOwnNames, is_to_begin_again, is_waiting}
use Rattle.law_supervisor.proofs.Changed.{found}
use Rattle.components.proofs.Whole.{firsts_flagged, firsts, firsts_reaching}
use Rattle.law_supervisor.proofs.Reached.{idle_of}
use Rattle.law_supervisor.proofs.Lists.{clash, either, none_of, not_so}
use Rattle.law_termination.specs.Drives.{IsAmong, IsInTime, IsPlaced, IsBelow, IsDriven, MayTakeOver, AreDriven, HasItemToTake, is_ending}
use Rattle.law_termination.specs.Kept.{IsKeptPart, IsOrderedPart, are_there, newest}
use Rattle.law_termination.proofs.ChangedLists.{has_new, new_first, new_second, of_marked, to_marked, of_standing, to_standing, counted_has, has_counted}
use Rattle.law_termination.proofs.ChangedLists.{comes_for, bound_all, in_bound_all, or_none, of_filter, to_filter, IsMarked}
use Rattle.law_termination.proofs.Changes.{HasSameSteps, changed_alone}
use Rattle.law_termination.proofs.Lists.{Has, any_has, each_has, has_any, none_any, passing}
use Rattle.law_termination.proofs.Near.{contains_one, all_prefix, all_joined, all_more, all_of, mapped, of_mapped, one_named, same_bytes}
use Rattle.law_termination.proofs.Near.{with_none}
use Rattle.law_termination.proofs.Stands.{gone_apart, left_is, left_leaves, left_takes}
use Rattle.law_termination.proofs.Still.{next_hard}

module _ (items : List Fitted) (counts : List ℕ) (w : Components) (i : AreDriven w) (m : MayTakeOver items w.parts) where
  abbrev ns : List Coming
  ns = counted 0 counts items

  abbrev ps : List ComponentState
  ps = standing w.parts

  abbrev fated : List ComponentState
  fated = map (fate ns) ps

  abbrev final : List ComponentState
  final = with_newcomers (newcomers ns ps) (replanned fated)

  abbrev stood : List ℕ → Bool
  stood n = is_met (λ q. not q.life.gone) w.parts n

  abbrev big : ℕ
  big = 1 + bound_all i.r items

  abbrev order : List ℕ → ℕ
  order n = if stood n then i.r n else big + m.come.s n

  at_stood : (n : List ℕ) → stood n ≡ true → order n ≡ i.r n
  at_stood n e = rw e refl

  at_new : (n : List ℕ) → stood n ≡ false → order n ≡ big + m.come.s n
  at_new n e = rw e refl

  -- a component of this name is not ending, or an item has it
  abbrev Stays : List ℕ → Type 0
  Stays n = (is_met (λ q. not (is_ending q)) w.parts n ≡ true) ⊎ IsAmong items n

  record IsMade (q : ComponentState) : Type 0 where
    needs : q.life.gone ≡ false → AllByRecursion (λ n. (order n < order (component_name q)) × Stays n) (hard_needs q)
    apart : (is_some q.next && is_leaving q) ≡ false
    takes : HasItemToTake q
    in_time : AllByRecursion IsInTime q.children
    hard : is_leaving q ≡ false → AllByRecursion (λ n. (m.come.s n < m.come.s (component_name q)) × IsAmong items n) (newest q).hard
    soft : is_leaving q ≡ false → AllByRecursion (λ n. (m.come.s n < m.come.s (component_name q)) × IsAmong items n) (newest q).soft

  -- ---- an item

  placed_of : (f : Fitted) → Has f items → IsPlaced m.come.s items f
  placed_of f h = each_has (IsPlaced m.come.s items) f items h m.come.placed

  item_hard : (f : Fitted) → Has f items → AllByRecursion (λ n. (m.come.s n < m.come.s (name_of f)) × IsAmong items n) f.hard
  item_hard f h = let p = placed_of f h in all_of (λ n. (m.come.s n < m.come.s (name_of f)) ×
      IsAmong items n) f.hard (λ n x. (each_has (λ z. m.come.s z < m.come.s (name_of f)) n f.hard x p.hard, each_has (IsAmong items) n f.hard x p.hard_there))

  item_soft : (f : Fitted) → Has f items → AllByRecursion (λ n. (m.come.s n < m.come.s (name_of f)) × IsAmong items n) f.soft
  item_soft f h = let p = placed_of f h in all_of (λ n. (m.come.s n < m.come.s (name_of f)) ×
      IsAmong items n) f.soft (λ n x. (each_has (λ z. m.come.s z < m.come.s (name_of f)) n f.soft x p.soft, each_has (IsAmong items) n f.soft x p.soft_there))

  -- what an item needs stands below it, where none of its name stood
  item_needs : (f : Fitted) → Has f items → stood (name_of f) ≡ false → AllByRecursion (λ n. (order n < order (name_of f)) × Stays n) f.hard
  item_needs f h e = all_of (λ n. (order n < order (name_of f)) × Stays n) f.hard (λ n x.
      let p = each_has (λ z. (m.come.s z < m.come.s (name_of f)) × IsAmong items z) n f.hard x (item_hard f h) in
      let l = p.0 in
      let b = in_bound_all i.r n f items h x in
      let y = at_new (name_of f) e in (
        (elim (either (stood n)) [ inl s ↦ (let z = at_stood n s in omega (arith, b, y, z)) | inr s ↦ (let z = at_new n s in omega (arith, l, y, z)) ]),
        inr p.1,
      ))

  made_fresh : (n : Coming) (cs : List Child) → Has n.0 items → stood (name_of n.0) ≡ false → AllByRecursion IsInTime cs →
      IsMade (record (fresh_part n) { children = cs })
  made_fresh n cs h e t = record {
    needs = λ g. subst (λ (ms : List (List ℕ)). AllByRecursion (λ k. (order k < order (name_of n.0)) ×
        Stays k) ms) (sym (with_none n.0.hard)) (item_needs n.0 h e);
    apart = refl;
    takes = refl;
    in_time = t;
    hard = λ l. item_hard n.0 h;
    soft = λ l. item_soft n.0 h;
  }

  -- ---- one that stood

  served : (p : ComponentState) → Has p w.parts → IsDriven i.r w.parts p
  served p h = each_has (IsDriven i.r w.parts) p w.parts h i.each

  stands_self : (p : ComponentState) → Has p w.parts → p.life.gone ≡ false → stood (component_name p) ≡ true
  stands_self p h g = has_any (λ q. bytes_eq (component_name q) (component_name p) && not q.life.gone) p w.parts h (and_from (bytes_eq (component_name p)
      (component_name p)) (not p.life.gone) (same_bytes (component_name p)) (rw g refl))

  none_self : (p : ComponentState) → Has p w.parts → p.life.gone ≡ true → stood (component_name p) ≡ false
  none_self p h g = none_any (λ q. bytes_eq (component_name q) (component_name p) && not q.life.gone) w.parts (λ q j. elim
      (either (bytes_eq (component_name q) (component_name p))) [
        | inl e ↦ (let same = one_named w.parts i.names q p j h ((bytes_eq-Decides (component_name q) (component_name p)).0 e) in
            rw e (rw (ap (λ (z : ComponentState). z.life.gone) same ∙ g) refl))
        | inr e ↦ rw e refl
      ])

  met_stood : (n : List ℕ) → is_met (λ q. not (is_ending q)) w.parts n ≡ true → stood n ≡ true
  met_stood n e =
      let o = passing (λ q. bytes_eq (component_name q) n && not (is_ending q)) w.parts e in
      let z = and_parts (bytes_eq (component_name o.one) n) (not (is_ending o.one)) o.passes in
      let g = (or_parts o.one.life.gone (is_gone (under_way o.one.life)) (not_so (is_ending o.one) z.1)).0 in
      has_any (λ q. bytes_eq (component_name q) n && not q.life.gone) o.one w.parts o.here (and_from (bytes_eq (component_name o.one) n)
      (not o.one.life.gone) z.0 (rw g refl))

  -- what it needed is still below it
  old_needs : (p : ComponentState) → Has p w.parts → p.life.gone ≡ false → AllByRecursion (λ n. (order n < order (component_name p)) × Stays n) p.fitted.hard
  old_needs p h g = all_more (IsBelow i.r w.parts (component_name p)) (λ n. (order n < order (component_name p)) × Stays n) p.fitted.hard (λ n x.
      let l = x.0 in
      let a = at_stood n (met_stood n x.1) in
      let b = at_stood (component_name p) (stands_self p h g) in
      (omega (arith, l, a, b), inl x.1)) (all_prefix (IsBelow i.r w.parts (component_name p)) p.fitted.hard (coming_needs p) ((served p h).needs g))

  none_taken : (y : Bool) (o : Option Coming) → o ≡ None → (if y then next_hard o else []) ≡ []
  none_taken true o e = ap next_hard e
  none_taken false o e = refl

  -- one whose item needs the same, and which is not about to take another
  pulled : (p q : ComponentState) → Has p w.parts → p.life.gone ≡ false → component_name q ≡ component_name p → q.fitted.hard ≡ p.fitted.hard →
      coming_needs q ≡ [] → AllByRecursion (λ n. (order n < order (component_name q)) × Stays n) (hard_needs q)
  pulled p q h g e f t = subst (λ (own : List ℕ). AllByRecursion (λ n. (order n < order own) × Stays n) (hard_needs q)) (sym e)
      (all_joined (λ n. (order n < order (component_name p)) × Stays n) q.fitted.hard (coming_needs q) (subst (λ (ms : List (List ℕ)). AllByRecursion
      (λ n. (order n < order (component_name p)) × Stays n) ms) (sym f) (old_needs p h g))
      (subst (λ (ms : List (List ℕ)). AllByRecursion (λ n. (order n < order (component_name p)) × Stays n) ms) (sym t) tt))

  made_left : (p : ComponentState) → Has p w.parts → IsKeptPart p → IsMade (leaving p)
  made_left p h k =
      let x = left_is p in
      record {
        needs = λ g. let f = sym (ap (λ (c : Life). c.gone) x.life) ∙ g in pulled p (leaving p) h f (ap name_of x.fitted) (ap (λ (z : Fitted). z.hard)
            x.fitted) (none_taken (is_again (under_way (leaving p).life)) (leaving p).next (x.next f));
        apart = elim (either p.life.gone) [ inl g ↦ rw (gone_apart p k g) refl | inr g ↦ rw (ap (λ (o : Option Coming). is_some o) (x.next g)) refl ];
        takes = left_takes p (served p h).takes;
        in_time = subst (λ (cs : List Child). AllByRecursion IsInTime cs) (sym x.children) (served p h).in_time;
        hard = λ l. clash (is_leaving (leaving p)) (left_leaves p) l;
        soft = λ l. clash (is_leaving (leaving p)) (left_leaves p) l;
      }

  record IsTexted (f : Fitted) (p q : ComponentState) : Type 0 where
    name : component_name q ≡ component_name p
    hard : q.fitted.hard ≡ p.fitted.hard
    life : q.life ≡ p.life
    children : q.children ≡ p.children
    stop : q.stop ≡ p.stop
    next : q.next ≡ p.next
    same : is_same_item f.item p.fitted.item ≡ true → q.fitted ≡ f

  texted : (f : Fitted) (p : ComponentState) → name_of f ≡ component_name p → (is_same_item f.item p.fitted.item ≡ true → f.hard ≡ p.fitted.hard) →
      IsTexted f p (with_texts f p)
  texted f p e h = go (is_same_item f.item p.fitted.item) refl
    where
      go : (y : Bool) → is_same_item f.item p.fitted.item ≡ y → IsTexted f p (if y then record p { fitted = f } else p)
      go true z = record { name = e; hard = h z; life = refl; children = refl; stop = refl; next = refl; same = λ x. refl }
      go false z = record {
        name = refl;
        hard = refl;
        life = refl;
        children = refl;
        stop = refl;
        next = refl;
        same = λ x. clash (is_same_item f.item p.fitted.item) x z;
      }

  same_hard : (p : ComponentState) → Has p w.parts → (f : Fitted) → Has f items → is_same_item f.item p.fitted.item ≡ true → f.hard ≡ p.fitted.hard
  same_hard p h f j = m.needs f p (contains_one items f j) (contains_one w.parts p h)

  record IsReplacing (n : Coming) (q r : ComponentState) : Type 0 where
    fitted : r.fitted ≡ q.fitted
    children : r.children ≡ q.children
    next : r.next ≡ Some n
    stop : r.stop ≡ Some after.Again
    gone : r.life.gone ≡ q.life.gone
    way : (is_again (under_way r.life) ≡ false) × (is_gone (under_way r.life) ≡ false)

  replaces : (n : Coming) (q : ComponentState) → IsReplacing n q (replacing n q)
  replaces n q = go (stops_for_good q.life) refl
    where
      restart_way : (y : Bool) → (is_again (if y then Some after.Restart else None) ≡ false) × (is_gone (if y then Some after.Restart else None) ≡ false)
      restart_way true = (refl, refl)
      restart_way false = (refl, refl)

      go : (y : Bool) → stops_for_good q.life ≡ y → IsReplacing n q (if y then record q {
        life = record q.life { stop = Some after.Restart };
        stop = Some after.Again;
        next = Some n;
      } else record q { stop = Some after.Again; next = Some n })
      go true e = record { fitted = refl; children = refl; next = refl; stop = refl; gone = refl; way = restart_way (is_stopping q.life.state) }
      go false e = let o = or_parts (is_again (under_way q.life)) (is_gone (under_way q.life)) e in
          record { fitted = refl; children = refl; next = refl; stop = refl; gone = refl; way = (o.0, o.1) }

  not_taking : (q : ComponentState) → is_again (under_way q.life) ≡ false → coming_needs q ≡ []
  not_taking q e = rw e refl

  made_replaced : (n : Coming) (p : ComponentState) → Has n.0 items → name_of n.0 ≡ component_name p → Has p w.parts → p.life.gone ≡ false →
      IsMade (replacing n (with_texts n.0 p))
  made_replaced n p j e h g =
      let t = texted n.0 p e (same_hard p h n.0 j) in
      let q = with_texts n.0 p in
      let x = replaces n q in
      let name : component_name (replacing n q) ≡ component_name p = ap name_of x.fitted ∙ t.name in
      let new : newest (replacing n q) ≡ n.0 = ap (λ (o : Option Coming). elim o [ None ↦ (replacing n q).fitted | Some z ↦ z.0 ]) x.next in
      let alive : (replacing n q).life.gone ≡ false = x.gone ∙ ap (λ (c : Life). c.gone) t.life ∙ g in
      let leave : is_leaving (replacing n q) ≡ false = rw alive (rw x.stop (rw x.way.1 refl)) in
      record {
        needs = λ z. pulled p (replacing n q) h g name (ap (λ (f : Fitted). f.hard) x.fitted ∙ t.hard) (not_taking (replacing n q) x.way.0);
        apart = ap (λ (l : Bool). is_some (replacing n q).next && l) leave ∙ and_no (is_some (replacing n q).next);
        takes = has_next (is_to_begin_again (replacing n q)) (is_waiting (replacing n q)) (is_gone (replacing n q).stop) (ap (λ (o : Option Coming). is_some
            o) x.next);
        in_time = subst (λ (cs : List Child). AllByRecursion IsInTime cs) (sym (x.children ∙ t.children)) (served p h).in_time;
        hard = λ l. subst (λ (own : List ℕ). AllByRecursion (λ k. (m.come.s k < m.come.s own) × IsAmong items k) (newest (replacing n q)).hard) (e ∙ sym name)
            (subst (λ (f : Fitted). AllByRecursion (λ k. (m.come.s k < m.come.s (name_of n.0)) × IsAmong items k) f.hard) (sym new) (item_hard n.0 j));
        soft = λ l. subst (λ (own : List ℕ). AllByRecursion (λ k. (m.come.s k < m.come.s own) × IsAmong items k) (newest (replacing n q)).soft) (e ∙ sym name)
            (subst (λ (f : Fitted). AllByRecursion (λ k. (m.come.s k < m.come.s (name_of n.0)) × IsAmong items k) f.soft) (sym new) (item_soft n.0 j));
      }
    where
      or_yes : (a : Bool) → (a || true) ≡ true
      or_yes true = refl
      or_yes false = refl

      has_next : (a b c : Bool) → b ≡ true → (not a || (b || c)) ≡ true
      has_next a true c e = or_yes (not a)
      has_next a false c e = absurd (cc)

      and_no : (b : Bool) → (b && false) ≡ false
      and_no true = refl
      and_no false = refl

  record IsStaying (p : ComponentState) : Type 0 where
    again : is_again (under_way p.life) ≡ false
    gone : is_gone (under_way p.life) ≡ false
    asked : is_gone p.stop ≡ false
    begins : is_again p.stop ≡ false
    next : p.next ≡ None

  unspared : (p : ComponentState) → IsKeptPart p → is_spared p ≡ false → IsStaying p
  unspared p k e =
      let x = or_parts (is_again p.stop || is_gone p.stop) (stops_for_good p.life) e in
      let y = or_parts (is_again p.stop) (is_gone p.stop) x.0 in
      let z = or_parts (is_again (under_way p.life)) (is_gone (under_way p.life)) x.1 in
      let o : (is_again p.stop || is_again (under_way p.life)) ≡ false = rw y.0 z.0 in
      record {
        again = z.0;
        gone = z.1;
        asked = y.1;
        begins = y.0;
        next = none_of p.next (or_none (is_waiting p) (is_again p.stop
            || is_again (under_way p.life)) k.waits o);
      }

  made_staying : (n : Coming) (p : ComponentState) → Has n.0 items → name_of n.0 ≡ component_name p → Has p w.parts → IsKeptPart p → p.life.gone ≡ false →
      is_replaced n.0 p ≡ false → IsMade (staying n (with_texts n.0 p)) × (is_leaving (staying n (with_texts n.0 p)) ≡ false)
  made_staying n p j e h k g r =
      let t = texted n.0 p e (same_hard p h n.0 j) in
      let x = or_parts (not (is_same_item n.0.item p.fitted.item)) (is_spared p || is_broken p.life.state) r in
      let u = unspared p k (or_parts (is_spared p) (is_broken p.life.state) x.1).0 in
      let f = t.same (so (is_same_item n.0.item p.fitted.item) x.0) in
      let q = with_texts n.0 p in
      let next : q.next ≡ None = t.next ∙ u.next in
      let new : newest (staying n q) ≡ n.0 = ap (λ (o : Option Coming). elim o [ None ↦ q.fitted | Some z ↦ z.0 ]) next ∙ f in
      let way = ap under_way t.life in
      let leave : is_leaving (staying n q) ≡ false = rw (ap (λ (c : Life). c.gone) t.life ∙ g) (rw (ap is_gone t.stop ∙ u.asked) (ap is_gone way ∙ u.gone)) in (
        record {
          needs = λ z. pulled p (staying n q) h g t.name t.hard (not_taking (staying n q) (ap is_again way ∙ u.again));
          apart = ap (λ (o : Option Coming). is_some o && is_leaving (staying n q)) next;
          takes = no_again (is_again q.stop) (is_again (under_way q.life)) (is_waiting (staying n q) || is_gone q.stop) (ap is_again t.stop
              ∙ u.begins) (ap is_again way ∙ u.again);
          in_time = subst (λ (cs : List Child). AllByRecursion IsInTime cs) (sym t.children) (served p h).in_time;
          hard = λ l. subst (λ (own : List ℕ). AllByRecursion (λ k. (m.come.s k < m.come.s own) × IsAmong items k) (newest (staying n q)).hard) (e ∙ sym t.name)
              (subst (λ (z : Fitted). AllByRecursion (λ k. (m.come.s k < m.come.s (name_of n.0)) × IsAmong items k) z.hard) (sym new) (item_hard n.0 j));
          soft = λ l. subst (λ (own : List ℕ). AllByRecursion (λ k. (m.come.s k < m.come.s own) × IsAmong items k) (newest (staying n q)).soft) (e ∙ sym t.name)
              (subst (λ (z : Fitted). AllByRecursion (λ k. (m.come.s k < m.come.s (name_of n.0)) × IsAmong items k) z.soft) (sym new) (item_soft n.0 j));
        },
        leave,
      )
    where
      no_again : (a b c : Bool) → a ≡ false → b ≡ false → (not (a || b) || c) ≡ true
      no_again false false c e f = refl
      no_again false true c e f = absurd (cc)
      no_again true b c e f = absurd (cc)

      so : (b : Bool) → not b ≡ false → b ≡ true
      so true z = refl
      so false z = absurd (cc)

  -- ---- what becomes of one that stood

  record IsFate (p x : ComponentState) : Type 0 where
    name : component_name x ≡ component_name p
    ends : is_ending p ≡ false → is_ending x ≡ false
    made : IsMade x

  abbrev FateBy : ComponentState → Option Coming → ComponentState → Type 0
  FateBy p o x = IsFate p x × (is_some o ≡ true → is_leaving x ≡ false)

  kept : (p : ComponentState) → Has p w.parts → IsKeptPart p
  kept p h = each_has IsKeptPart p w.parts h i.alone

  met_fate : (n : Coming) (p : ComponentState) → Has p w.parts → Has n.0 items → name_of n.0 ≡ component_name p → FateBy p (Some n) (meeting n p)
  met_fate n p h j e = go p.life.gone refl (is_replaced n.0 p) refl
    where
      t : IsTexted n.0 p (with_texts n.0 p)
      t = texted n.0 p e (same_hard p h n.0 j)

      x : IsReplacing n (with_texts n.0 p) (replacing n (with_texts n.0 p))
      x = replaces n (with_texts n.0 p)

      go : (g : Bool) → p.life.gone ≡ g → (y : Bool) → is_replaced n.0 p ≡ y
          → FateBy p (Some n) (if g then coming_again n p else (if y then replacing n (with_texts n.0 p) else staying n (with_texts n.0 p)))
      go true g y r = (record { name = e; ends = λ z. refl; made = made_fresh n p.children j (ap stood e ∙ none_self p h g) (served p h).in_time }, λ z. refl)
      go false g true r =
          let alive : (replacing n (with_texts n.0 p)).life.gone ≡ false = x.gone ∙ ap (λ (c : Life). c.gone) t.life ∙ g in (
            record {
              name = ap name_of x.fitted ∙ t.name;
              ends = λ z. rw alive x.way.1;
              made = made_replaced n p j e h g;
            },
            λ z. rw alive (rw x.stop (rw x.way.1 refl)),
          )
      go false g false r =
          let s = made_staying n p j e h (kept p h) g r in (
            record {
              name = t.name;
              ends = λ z. ap (λ (c : Life). c.gone || is_gone (under_way c)) t.life ∙ z;
              made = s.0;
            },
            λ z. s.1,
          )

  fate_of : (p : ComponentState) → Has p w.parts → FateBy p (coming_for (component_name p) ns) (fate ns p)
  fate_of p h = go (coming_for (component_name p) ns) (found (λ n. Has n.0 items) (component_name p) ns (counted_has 0 counts items))
    where
      go : (o : Option Coming) → IfSome o (λ n. Has n.0 items × (name_of n.0 ≡ component_name p)) →
          FateBy p o (elim o [ None ↦ leaving p | Some n ↦ meeting n p ])
      go None f = let l = left_is p in (
        record {
          name = ap name_of l.fitted;
          ends = λ z. ap (λ (c : Life). c.gone || is_gone (under_way c)) l.life ∙ z;
          made = made_left p h (kept p h);
        },
        λ e. absurd (cc),
      )
      go (Some n) f = met_fate n p h f.0 f.1

  -- ---- marks

  mark_leaves : (x : ComponentState) → may_replan x ≡ true → is_leaving (record x { stop = Some after.Restart }) ≡ is_leaving x
  mark_leaves x e = let j = idle_of x e in rw j.0 refl

  made_marked : (x q : ComponentState) → IsMarked x q → IsMade x → IsMade q
  made_marked x q (inl e) d = subst IsMade (sym e) d
  made_marked x q (inr e) d = let l = mark_leaves x e.0 in subst IsMade (sym e.1) (record {
    needs = d.needs;
    apart = ap (λ (y : Bool). is_some x.next && y) l ∙ d.apart;
    takes = (let j = idle_of x e.0 in rw j.1 refl);
    in_time = d.in_time;
    hard = λ z. d.hard (sym l ∙ z);
    soft = λ z. d.soft (sym l ∙ z);
  })

  marked_name : (x q : ComponentState) → IsMarked x q → component_name q ≡ component_name x
  marked_name x q (inl e) = ap component_name e
  marked_name x q (inr e) = ap component_name e.1

  marked_ends : (x q : ComponentState) → IsMarked x q → is_ending q ≡ is_ending x
  marked_ends x q (inl e) = ap is_ending e
  marked_ends x q (inr e) = ap is_ending e.1

  marked_leaves : (x q : ComponentState) → IsMarked x q → is_leaving q ≡ is_leaving x
  marked_leaves x q (inl e) = ap is_leaving e
  marked_leaves x q (inr e) = ap is_leaving e.1 ∙ mark_leaves x e.0

  abbrev flags : Flagged
  flags = reaching (length (flagged is_replacing fated)) (flagged is_replacing fated)

  same_firsts : firsts flags ≡ fated
  same_firsts = firsts_reaching (length (flagged is_replacing fated)) (flagged is_replacing fated) ∙ firsts_flagged is_replacing fated

  -- ---- newcomers

  abbrev is_new : Coming → Bool
  is_new n = not (list_any (λ p. bytes_eq (component_name p) (name_of n.0)) ps)

  none_stood : (n : Coming) → is_new n ≡ true → stood (name_of n.0) ≡ false
  none_stood n e = none_any (λ q. bytes_eq (component_name q) (name_of n.0) && not q.life.gone) w.parts (λ q j. elim (either q.life.gone) [
    | inl g ↦ rw g (and_none (bytes_eq (component_name q) (name_of n.0)))
    | inr g ↦ rw (any_has (λ p. bytes_eq (component_name p) (name_of n.0)) q ps (to_standing w.parts q j g)
        (not_so (list_any (λ p. bytes_eq (component_name p) (name_of n.0)) ps) e)) refl
  ])
    where
      and_none : (b : Bool) → (b && not true) ≡ false
      and_none true = refl
      and_none false = refl

  made_new : (q : ComponentState) → Has q (newcomers ns ps) → IsMade q
  made_new q h =
      let r = of_mapped fresh_part q (filter is_new ns) h in
      let f = of_filter is_new ns r.0 r.1 in
      subst IsMade (sym r.2) (made_fresh r.0 [] (each_has (λ (n : Coming). Has n.0 items) r.0 ns f.0 (counted_has 0 counts items)) (none_stood r.0 f.1) tt)

  made_old : (q : ComponentState) → Has q (replanned fated) → IsMade q
  made_old q h =
      let r = of_marked flags q h in
      let x = of_mapped (fate ns) r.0 ps (subst (λ (qs : List ComponentState). Has r.0 qs) same_firsts r.1) in
      let d : IsMade r.0 = subst IsMade (sym x.2) (fate_of x.0 (of_standing w.parts x.0 x.1)).0.made in
      made_marked r.0 q r.2 d

  made : (q : ComponentState) → Has q final → IsMade q
  made q h = elim (has_new (newcomers ns ps) (replanned fated) q h) [ inl j ↦ made_new q j | inr j ↦ made_old q j ]

  -- ---- who is there

  record IsThere (p : ComponentState) : Type 0 where
    one : ComponentState
    here : Has one final
    name : component_name one ≡ component_name p
    ends : is_ending p ≡ false → is_ending one ≡ false
    stays : is_some (coming_for (component_name p) ns) ≡ true → is_leaving one ≡ false

  there : (p : ComponentState) → Has p ps → IsThere p
  there p h =
      let f = fate_of p (of_standing w.parts p h) in
      let r = to_marked flags (fate ns p) (subst (λ (qs : List ComponentState). Has (fate ns p) qs) (sym same_firsts) (mapped (fate ns) p ps h)) in
      record {
        one = r.0;
        here = new_second (newcomers ns ps) (replanned fated) r.0 r.1;
        name = marked_name (fate ns p) r.0 r.2 ∙ f.0.name;
        ends = λ e. marked_ends (fate ns p) r.0 r.2 ∙ f.0.ends e;
        stays = λ e. marked_leaves (fate ns p) r.0 r.2 ∙ f.1 e;
      }

  ending_met : (n : List ℕ) → is_met (λ q. not (is_ending q)) w.parts n ≡ true → is_met (λ q. not (is_ending q)) final n ≡ true
  ending_met n e =
      let o = passing (λ q. bytes_eq (component_name q) n && not (is_ending q)) w.parts e in
      let z = and_parts (bytes_eq (component_name o.one) n) (not (is_ending o.one)) o.passes in
      let l = not_so (is_ending o.one) z.1 in
      let g = (or_parts o.one.life.gone (is_gone (under_way o.one.life)) l).0 in
      let t = there o.one (to_standing w.parts o.one o.here g) in
      let k = t.ends l in
      has_any (λ q. bytes_eq (component_name q) n && not (is_ending q)) t.one final t.here
      (and_from (bytes_eq (component_name t.one) n) (not (is_ending t.one)) (subst (λ (own : List ℕ). bytes_eq own n ≡ true) (sym t.name) z.0) (rw k refl))

  among_met : (n : List ℕ) → IsAmong items n → is_met (λ q. not (is_leaving q)) final n ≡ true
  among_met n e =
      let o = passing (λ (g : Fitted). bytes_eq (name_of g) n) items e in
      let c = has_counted 0 counts items o.one o.here in
      let same : name_of c.0.0 ≡ n = ap name_of c.2 ∙ (bytes_eq-Decides (name_of o.one) n).0 o.passes in
      elim (either (list_any (λ p. bytes_eq (component_name p) (name_of c.0.0)) ps)) [
        | inl y ↦ (let p = passing (λ q. bytes_eq (component_name q) (name_of c.0.0)) ps y in
            let own = (bytes_eq-Decides (component_name p.one) (name_of c.0.0)).0 p.passes in
            let t = there p.one p.here in
            let l = t.stays (comes_for (component_name p.one) ns c.0 c.1 (sym own)) in
            has_any (λ q. bytes_eq (component_name q) n && not (is_leaving q)) t.one final t.here
            (and_from (bytes_eq (component_name t.one) n) (not (is_leaving t.one)) (subst (λ (z : List ℕ). bytes_eq z n ≡ true) (sym (t.name ∙ own
            ∙ same)) (same_bytes n)) (rw l refl)))
        | inr y ↦ (let h = new_first (newcomers ns ps) (replanned fated) (fresh_part c.0) (mapped fresh_part c.0 (filter is_new ns) (to_filter is_new ns c.0
            c.1 (rw y refl))) in
            has_any (λ q. bytes_eq (component_name q) n && not (is_leaving q)) (fresh_part c.0) final h
            (and_from (bytes_eq (name_of c.0.0) n) (not (is_leaving (fresh_part c.0))) (subst (λ (z : List ℕ). bytes_eq z n ≡ true) (sym same)
            (same_bytes n)) refl))
      ]

  by_stay : (a b c : Bool) → not (a || (b || c)) ≡ true → not (a || c) ≡ true
  by_stay true b c e = absurd (cc)
  by_stay false true c e = absurd (cc)
  by_stay false false c e = e

  stays_met : (n : List ℕ) → Stays n → is_met (λ q. not (is_ending q)) final n ≡ true
  stays_met n (inl e) = ending_met n e
  stays_met n (inr e) =
      let o = passing (λ q. bytes_eq (component_name q) n && not (is_leaving q)) final (among_met n e) in
      let z = and_parts (bytes_eq (component_name o.one) n) (not (is_leaving o.one)) o.passes in
      has_any (λ q. bytes_eq (component_name q) n && not (is_ending q)) o.one final o.here
      (and_from (bytes_eq (component_name o.one) n) (not (is_ending o.one)) z.0 (by_stay o.one.life.gone (is_gone o.one.stop)
      (is_gone (under_way o.one.life)) z.1))

  all_there : (own : List ℕ) (ks : List (List ℕ)) → AllByRecursion (λ n. (m.come.s n < m.come.s own) × IsAmong items n) ks → are_there final ks ≡ true
  all_there own [] a = refl
  all_there own (k ∷ ks) a = rw (among_met k a.0.1) (all_there own ks a.1)

  final_served : (q : ComponentState) → Has q final → IsDriven order final q
  final_served q h = let d = made q h in record {
    needs = λ g. all_more (λ n. (order n < order (component_name q)) × Stays n) (IsBelow order final (component_name q)) (hard_needs q) (λ n x. (
      x.0,
      stays_met n x.1,
    )) (d.needs g);
    apart = d.apart;
    takes = d.takes;
    in_time = d.in_time;
  }

  final_ordered : (q : ComponentState) → Has q final → IsOrderedPart order m.come.s final q
  final_ordered q h = let d = made q h in record {
    stands = λ g. all_more (λ n. (order n < order (component_name q)) × Stays n) (λ n. order n < order (component_name q)) q.fitted.hard (λ n x. x.0)
        (all_prefix (λ n. (order n < order (component_name q)) × Stays n) q.fitted.hard (coming_needs q) (d.needs g));
    hard = λ l. all_more (λ n. (m.come.s n < m.come.s (component_name q)) × IsAmong items n) (λ n. m.come.s n < m.come.s (component_name q)) (newest q).hard
        (λ n x. x.0) (d.hard l);
    soft = λ l. all_more (λ n. (m.come.s n < m.come.s (component_name q)) × IsAmong items n) (λ n. m.come.s n < m.come.s (component_name q)) (newest q).soft
        (λ n x. x.0) (d.soft l);
    hard_there = λ l. all_there (component_name q) (newest q).hard (d.hard l);
    soft_there = λ l. all_there (component_name q) (newest q).soft (d.soft l);
  }

  pub change_drives : (steady : Bool) → AllByRecursion (λ (n : ℕ). n < 3) counts → HaveOwnNames (changed_to items counts steady w).parts →
      AreDriven (changed_to items counts steady w)
  change_drives steady few names = record {
    alone = changed_alone items counts steady w i.alone m.come.runnable few (all_of (λ p. AllByRecursion (HasSameSteps p) items) w.parts (λ p h. all_of
        (HasSameSteps p) items (λ f j. m.steps f p
        (contains_one items f j) (contains_one w.parts p h))));
    names = names;
    r = order;
    s = m.come.s;
    ordered = all_of (IsOrderedPart order m.come.s final) final final_ordered;
    each = all_of (IsDriven order final) final final_served;
  }
