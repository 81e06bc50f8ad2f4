-- What a change to other items leaves.
use Rattle.std.proofs.Common.{◌≡◌, ◌<◌, ◌+◌, ℕ, suc, List, [], ◌∷◌, map, Option, Some, None, Bool, true, false, refl, sym, ap, ◌∙◌, inl, inr, arith, subst}
use Rattle.std.specs.Prelude.{◌&&◌, ◌||◌, not, is_some, slice_get, get_or, if◌then◌else◌, filter}
use Rattle.std.specs.Option.{IfSome}
use Rattle.std.specs.List.{AllByRecursion, list_any}
use Rattle.std.specs.Str.{bytes_eq}
use Rattle.std.proofs.lemmas.Bool.{or_parts, or_right, and_parts}
use Rattle.std.proofs.lemmas.Slice.Eq.{bytes_eq-Decides}
use Rattle.nuc_base.specs.declared.kinds.Step.{Step}
use Rattle.nuc_base.specs.declared.kinds.Exit.{Exit}
use Rattle.lifecycle.specs.Life.{Life, MayHave}
use Rattle.lifecycle.specs.Awaits.{is_stopping}
use Rattle.lifecycle.specs.declared.kinds.State.{State}
use Rattle.lifecycle.specs.declared.kinds.State.TheVariants as state
use Rattle.lifecycle.specs.declared.kinds.After.{After}
use Rattle.lifecycle.specs.declared.kinds.After.TheVariants as after
use Rattle.device.specs.Devices.{Device}
use Rattle.components.specs.Fitted.{Fitted, name_of, is_before, is_same_item, is_same_config}
use Rattle.components.specs.Components.{Components, ComponentState, Child, component_name, is_spared, is_again, is_gone, is_broken, is_over, under_way}
use Rattle.components.specs.Components.{stops_for_good}
use Rattle.components.specs.Marks.{flagged, may_replan}
use Rattle.components.specs.Changes.{Coming, counted, coming_for, fresh_part, leaving, is_replaced, with_texts, replacing, staying, coming_again, meeting}
use Rattle.components.specs.Changes.{fate, standing, is_replacing, replanned, newcomers, placed, with_newcomers, changed_to}
use Rattle.law_supervisor.specs.Sound.{IsSoundPart, IsOrderly, may_ask, is_waiting, is_to_begin_again}
use Rattle.law_supervisor.specs.Keeps.{AgreesBy, IsCounted, count_of, AreCounted, HasNoneOwed}
use Rattle.law_supervisor.proofs.Lists.{either, clash, second_true, none_of, from_places, mapped_all}
use Rattle.components.proofs.Whole.{firsts_flagged}
use Rattle.law_supervisor.proofs.Reached.{Marks, restarted_all, same_may}
use Rattle.law_supervisor.proofs.Alone.{IsCountedNext, bare_of, mark_sound, mark_counted}
use Rattle.law_supervisor.proofs.Together.{sound_of, told_each}

-- ---- one item that comes

-- it begins with fewer failures than break
abbrev IsFew : Coming → Type 0
IsFew n = n.1 < 3

-- and with the device's count of its name
abbrev IsComing : Device → Coming → Type 0
IsComing d n = count_of d (name_of n.0) ≡ Some n.1

pub few_new : (s : State) (n : ℕ) → n < 3 → MayHave s n
few_new state.New n l = l
few_new state.Installed n l = l
few_new state.Starting n l = l
few_new state.Running n l = l
few_new state.Stopping n l = l
few_new state.Finished n l = l
few_new state.Errored n l = l
few_new state.Broken n l = omega (arith, l)

again_sound : (n : Coming) (cs : List Child) → IsFew n → IsSoundPart (record (fresh_part n) { children = cs })
again_sound n cs c = record { few = c; busy = refl; runs = refl; run = refl; bare = refl; asks = refl; waits = refl; takes = refl; coming = tt }

again_counted : (d : Device) (n : Coming) (cs : List Child) → IsComing d n → IsCounted d (record (fresh_part n) { children = cs })
again_counted d n cs c = record { own = λ s g. c; broken = λ s g b. absurd (cc); spared = λ s. refl; gone = λ g. refl; next = tt }

-- ---- one that stands

spared_or : (p : ComponentState) → (stops_for_good p.life ≡ true) → is_spared p ≡ true
spared_or p e = or_right (is_again p.stop || is_gone p.stop) (stops_for_good p.life) e

-- of one that is gone nothing waits
pub gone_bare : (p : ComponentState) → IsSoundPart p → p.life.gone ≡ true → (p.stop ≡ None) × (is_stopping p.life.state ≡ false) × (p.next ≡ None)
gone_bare p k g =
    let b = bare_of p k.bare g in
    let t : is_to_begin_again p ≡ false = rw b.0 (rw b.1 refl) in (
      b.0,
      b.1,
      none_of p.next (elim (either (is_some p.next)) [
        | inr n ↦ n
        | inl w ↦ clash (is_to_begin_again p)
            (second_true (not (is_waiting p)) (is_to_begin_again p) k.waits (rw w refl)) t
      ]),
    )

-- what holds before
abbrev pub Before : ComponentState → Type 0
Before p = IsSoundPart p × (p.owed ≡ None)

pub before_of : (w : Components) → IsOrderly w → HasNoneOwed w → AllByRecursion Before w.parts
before_of w i t = from_places Before w.parts (λ k p e. (i.sound k p e, told_each w.parts t k p e))

-- none waits
no_next : (d : Device) (own : List ℕ) (o : Option Coming) → o ≡ None → IfSome o (IsCountedNext d own)
no_next d own o e = subst (λ (o : Option Coming). IfSome o (IsCountedNext d own)) (sym e) tt

gone_counted : (d : Device) (p : ComponentState) → Before p → p.life.gone ≡ true → IsCounted d p
gone_counted d p b g = record {
  own = λ s f. clash p.life.gone g f;
  broken = λ s f y. clash p.life.gone g f;
  spared = λ s. b.1;
  gone = λ h. b.1;
  next = no_next d (component_name p) p.next (gone_bare p b.0 g).2;
}

-- one that is to be replaced or to go
spared_counted : (d : Device) (p : ComponentState) → is_spared p ≡ true → p.owed ≡ None → IfSome p.next (IsCountedNext d (component_name p)) → IsCounted d p
spared_counted d p s o n = record {
  own = λ u v. clash (is_spared p) s u;
  broken = λ u v y. clash (is_spared p) s u;
  spared = λ u. o;
  gone = λ u. o;
  next = n;
}

-- ---- one that is to go

pub ask_gone : (way : Option After) → is_gone way ≡ false → may_ask way (Some after.Gone) ≡ true
ask_gone way e = grind (arith, e)

pub ask_none : (way : Option After) → may_ask way None ≡ true
ask_none way = grind arith

not_both : (o : Option After) → is_gone o ≡ true → is_again o ≡ false
not_both o e = grind (arith, e)

stops_gone : (p : ComponentState) → is_gone (under_way p.life) ≡ true → stops_for_good p.life ≡ true
stops_gone p e = or_right (is_again (under_way p.life)) (is_gone (under_way p.life)) e

abbrev pub left_as : Bool → Bool → ComponentState → ComponentState
left_as g u p = if g then p else (if u then record p { stop = None; next = None } else record p { stop = Some after.Gone; next = None })

pub leaving_sound : (p : ComponentState) → IsSoundPart p → IsSoundPart (leaving p)
leaving_sound p k = go p.life.gone refl (is_gone (under_way p.life)) refl
  where
    go : (g : Bool) → p.life.gone ≡ g → (u : Bool) → is_gone (under_way p.life) ≡ u → IsSoundPart (left_as g u p)
    go true e u f = k
    go false e true f = record {
      few = k.few;
      busy = k.busy;
      runs = k.runs;
      run = k.run;
      bare = rw e refl;
      asks = ask_none (under_way p.life);
      waits = refl;
      takes = rw (not_both (under_way p.life) f) refl;
      coming = tt;
    }
    go false e false f = record {
      few = k.few;
      busy = k.busy;
      runs = k.runs;
      run = k.run;
      bare = rw e refl;
      asks = ask_gone (under_way p.life) f;
      waits = refl;
      takes = or_right (not (is_again (under_way p.life))) true refl;
      coming = tt;
    }

leaving_counted : (d : Device) (p : ComponentState) → Before p → IsCounted d (leaving p)
leaving_counted d p b = go p.life.gone refl (is_gone (under_way p.life)) refl
  where
    go : (g : Bool) → p.life.gone ≡ g → (u : Bool) → is_gone (under_way p.life) ≡ u → IsCounted d (left_as g u p)
    go true e u f = gone_counted d p b e
    go false e true f = spared_counted d (left_as false true p) (spared_or (left_as false true p) (stops_gone p f)) b.1 tt
    go false e false f = spared_counted d (left_as false false p) refl b.1 tt

-- ---- one for which an item comes

same_named : (f : Fitted) (p : ComponentState) → is_same_item f.item p.fitted.item ≡ true → name_of f ≡ component_name p
same_named f p e = (bytes_eq-Decides f.item.name p.fitted.item.name).0 (and_parts (bytes_eq f.item.name p.fitted.item.name)
    (bytes_eq f.item.version p.fitted.item.version && (is_same_config f.item.config p.fitted.item.config && bytes_eq f.item.recipe p.fitted.item.recipe)) e).0

texts_sound : (f : Fitted) (p : ComponentState) → IsSoundPart p → name_of f ≡ component_name p → IsSoundPart (with_texts f p)
texts_sound f p k e = go (is_same_item f.item p.fitted.item)
  where
    go : (y : Bool) → IsSoundPart (if y then record p { fitted = f } else p)
    go false = k
    go true = record {
      few = k.few;
      busy = k.busy;
      runs = k.runs;
      run = k.run;
      bare = k.bare;
      asks = k.asks;
      waits = k.waits;
      takes = k.takes;
      coming = subst (λ (own : List ℕ). IfSome p.next (λ n. (name_of n.0 ≡ own) × (n.1 < 3))) (sym e) k.coming;
    }

pub texts_named : (f : Fitted) (p : ComponentState) → name_of f ≡ component_name p → component_name (with_texts f p) ≡ component_name p
texts_named f p e = go (is_same_item f.item p.fitted.item)
  where
    go : (y : Bool) → component_name (if y then record p { fitted = f } else p) ≡ component_name p
    go false = refl
    go true = e

-- nothing but its item is another
pub texts_same : {X : Type 0} (v : ComponentState → X) → ((f : Fitted) (p : ComponentState) → v (record p { fitted = f }) ≡ v p) →
    (f : Fitted) (p : ComponentState) → v (with_texts f p) ≡ v p
texts_same v m f p = go (is_same_item f.item p.fitted.item)
  where
    go : (y : Bool) → v (if y then record p { fitted = f } else p) ≡ v p
    go false = refl
    go true = m f p

texts_gone : (f : Fitted) (p : ComponentState) → (with_texts f p).life.gone ≡ p.life.gone
texts_gone f p = texts_same (λ q. q.life.gone) (λ g q. refl) f p

texts_before : (f : Fitted) (p : ComponentState) → Before p → name_of f ≡ component_name p → Before (with_texts f p)
texts_before f p b e = (texts_sound f p b.0 e, texts_same (λ q. q.owed) (λ g q. refl) f p ∙ b.1)

pub stopping_good : (c : Life) → stops_for_good c ≡ true → is_stopping c.state ≡ true
stopping_good c e = elim (either (is_stopping c.state)) [ inl y ↦ y | inr n ↦ (let z : stops_for_good c ≡ false = rw n refl in clash (stops_for_good c) e z) ]

pub ask_again : (way : Option After) → (is_again way || is_gone way) ≡ false → may_ask way (Some after.Again) ≡ true
ask_again way e = grind (arith, e)

abbrev pub replaced_as : Bool → Coming → ComponentState → ComponentState
replaced_as y n p =
    if y then record p { life = record p.life { stop = Some after.Restart }; stop = Some after.Again; next = Some n }
    else record p { stop = Some after.Again; next = Some n }

replacing_sound : (n : Coming) (p : ComponentState) → IsSoundPart p → p.life.gone ≡ false → IsFew n → name_of n.0 ≡ component_name p →
    IsSoundPart (replacing n p)
replacing_sound n p k g c e = go (stops_for_good p.life) refl
  where
    go : (y : Bool) → stops_for_good p.life ≡ y → IsSoundPart (replaced_as y n p)
    go true f = record {
      few = k.few;
      busy = k.busy;
      runs = k.runs;
      run = k.run;
      bare = rw g refl;
      asks = rw (stopping_good p.life f) refl;
      waits = refl;
      takes = refl;
      coming = (e, c);
    }
    go false f = record {
      few = k.few;
      busy = k.busy;
      runs = k.runs;
      run = k.run;
      bare = rw g refl;
      asks = ask_again (under_way p.life) f;
      waits = refl;
      takes = refl;
      coming = (e, c);
    }

replacing_counted : (d : Device) (n : Coming) (p : ComponentState) → p.owed ≡ None → IsComing d n → name_of n.0 ≡ component_name p →
    IsCounted d (replacing n p)
replacing_counted d n p o c e = go (stops_for_good p.life)
  where
    go : (y : Bool) → IsCounted d (replaced_as y n p)
    go true = spared_counted d (replaced_as true n p) refl o (e, c)
    go false = spared_counted d (replaced_as false n p) refl o (e, c)

staying_sound : (n : Coming) (p : ComponentState) → IsSoundPart p → IsFew n → IsSoundPart (staying n p)
staying_sound n p k c = record {
  few = few_new p.life.state n.1 c;
  busy = k.busy;
  runs = k.runs;
  run = k.run;
  bare = k.bare;
  asks = k.asks;
  waits = k.waits;
  takes = k.takes;
  coming = k.coming;
}

no_again : (p : ComponentState) → is_spared p ≡ false → is_to_begin_again p ≡ false
no_again p s =
    let a = or_parts (is_again p.stop || is_gone p.stop) (stops_for_good p.life) s in
    let b = or_parts (is_again p.stop) (is_gone p.stop) a.0 in
    let c = or_parts (is_again (under_way p.life)) (is_gone (under_way p.life)) a.1 in
    rw b.0 (rw c.0 refl)

staying_counted : (d : Device) (n : Coming) (p : ComponentState) → Before p → IsComing d n → name_of n.0 ≡ component_name p → is_spared p ≡ false →
    is_broken p.life.state ≡ false → IsCounted d (staying n p)
staying_counted d n p b c e s r =
    let t = no_again p s in
    let x = none_of p.next (elim (either (is_some p.next)) [
      | inr m ↦ m
      | inl w ↦ clash (is_to_begin_again p)
          (second_true (not (is_waiting p)) (is_to_begin_again p) b.0.waits (rw w refl)) t
    ]) in
    record {
      own = λ u v. subst (λ (o : Option (Step × Exit)). AgreesBy d (component_name p) n.1 o) (sym b.1) (ap (count_of d) (sym e) ∙ c);
      broken = λ u v y. clash (is_broken p.life.state) y r;
      spared = λ u. b.1;
      gone = λ h. b.1;
      next = no_next d (component_name p) p.next x;
    }

abbrev pub met_as : Bool → Bool → Coming → ComponentState → ComponentState
met_as g y n p = if g then coming_again n p else (if y then replacing n (with_texts n.0 p) else staying n (with_texts n.0 p))

meeting_sound : (n : Coming) (p : ComponentState) → IsSoundPart p → IsFew n → name_of n.0 ≡ component_name p → IsSoundPart (meeting n p)
meeting_sound n p k c e = go p.life.gone refl (is_replaced n.0 p)
  where
    go : (g : Bool) → p.life.gone ≡ g → (y : Bool) → IsSoundPart (met_as g y n p)
    go true f y = again_sound n p.children c
    go false f true = replacing_sound n (with_texts n.0 p) (texts_sound n.0 p k e) (texts_gone n.0 p ∙ f) c (e ∙ sym (texts_named n.0 p e))
    go false f false = staying_sound n (with_texts n.0 p) (texts_sound n.0 p k e) c

meeting_counted : (d : Device) (n : Coming) (p : ComponentState) → Before p → IsComing d n → name_of n.0 ≡ component_name p → IsCounted d (meeting n p)
meeting_counted d n p b c e = go p.life.gone (is_replaced n.0 p) refl
  where
    named : name_of n.0 ≡ component_name (with_texts n.0 p)
    named = e ∙ sym (texts_named n.0 p e)

    go : (g y : Bool) → is_replaced n.0 p ≡ y → IsCounted d (met_as g y n p)
    go true y h = again_counted d n p.children c
    go false true h = replacing_counted d n (with_texts n.0 p) (texts_before n.0 p b e).1 c named
    go false false h =
        let a = or_parts (not (is_same_item n.0.item p.fitted.item)) (is_spared p || is_broken p.life.state) h in
        let z = or_parts (is_spared p) (is_broken p.life.state) a.1 in
        staying_counted d n (with_texts n.0 p) (texts_before n.0 p b e) c named (texts_same is_spared (λ g q. refl) n.0 p ∙ z.0)
        (texts_same (λ q. is_broken q.life.state) (λ g q. refl) n.0 p ∙ z.1)

-- ---- which item comes

pub found : (C : Coming → Type 0) (own : List ℕ) (ns : List Coming) → AllByRecursion C ns → IfSome (coming_for own ns) (λ n. C n × (name_of n.0 ≡ own))
found C own [] a = tt
found C own (n ∷ ns) a = elim (bytes_eq own (name_of n.0)) as (λ (y : Bool). bytes_eq own (name_of n.0) ≡ y → IfSome (if y then Some n else coming_for own ns)
    (λ m. C m × (name_of m.0 ≡ own))) [
      | true ↦ λ e. (a.0, sym ((bytes_eq-Decides own (name_of n.0)).0 e))
      | false ↦ λ e. found C own ns a.1
    ] refl

-- what becomes of one that goes, and of one for which an item comes, becomes of each
fate_by : (C : Coming → Type 0) (P : ComponentState → Type 0) (p : ComponentState) → P (leaving p)
    → ((n : Coming) → C n → name_of n.0 ≡ component_name p → P (meeting n p)) → (ns : List Coming) → AllByRecursion C ns → P (fate ns p)
fate_by C P p l m ns a = go (coming_for (component_name p) ns) (found C (component_name p) ns a)
  where
    go : (o : Option Coming) → IfSome o (λ n. C n × (name_of n.0 ≡ component_name p)) → P (elim o [ None ↦ leaving p | Some n ↦ meeting n p ])
    go None h = l
    go (Some n) h = m n h.0 h.1

-- ---- those that did not stand before

fresh_by : (C : Coming → Type 0) (P : ComponentState → Type 0) → ((n : Coming) → C n → P (fresh_part n)) → (test : Coming → Bool) (ns : List Coming) →
    AllByRecursion C ns → AllByRecursion P (map fresh_part (filter test ns))
fresh_by C P f test [] a = tt
fresh_by C P f test (n ∷ ns) a = elim (test n) as (λ (y : Bool). AllByRecursion P (map fresh_part (if y then n ∷ filter test ns else filter test ns)))
    [ true ↦ (f n a.0, fresh_by C P f test ns a.1) | false ↦ fresh_by C P f test ns a.1 ]

pub placed_all : (P : ComponentState → Type 0) (p : ComponentState) (qs : List ComponentState) → P p → AllByRecursion P qs → AllByRecursion P (placed p qs)
placed_all P p [] a b = (a, tt)
placed_all P p (q ∷ qs) a b = elim (is_before (component_name p) (component_name q))
    as (λ (y : Bool). AllByRecursion P (if y then p ∷ q ∷ qs else q ∷ placed p qs))
    [ true ↦ (a, b) | false ↦ (b.0, placed_all P p qs a b.1) ]

pub newcomers_all : (P : ComponentState → Type 0) (ns ps : List ComponentState) → AllByRecursion P ns → AllByRecursion P ps →
    AllByRecursion P (with_newcomers ns ps)
newcomers_all P [] ps a b = b
newcomers_all P (n ∷ ns) ps a b = placed_all P n (with_newcomers ns ps) a.0 (newcomers_all P ns ps a.1 b)

-- those that stand
pub standing_all : (P : ComponentState → Type 0) (ps : List ComponentState) → AllByRecursion P ps → AllByRecursion P (standing ps)
standing_all P [] a = tt
standing_all P (p ∷ ps) a = elim (is_over p) as (λ (y : Bool). AllByRecursion P (if not y then p ∷ standing ps else standing ps))
    [ true ↦ standing_all P ps a.1 | false ↦ (a.0, standing_all P ps a.1) ]

-- ---- all of them

-- the items with their counts
pub counted_all : (C : Coming → Type 0) (j : ℕ) (counts : List ℕ) (fs : List Fitted)
    → ((k : ℕ) (f : Fitted) → slice_get fs k ≡ Some f → C (f, get_or counts (j + k) 0)) → AllByRecursion C (counted j counts fs)
counted_all C j counts [] h = tt
counted_all C j counts (f ∷ fs) h = (
  subst (λ (i : ℕ). C (f, get_or counts i 0)) (let z : j + 0 ≡ j = omega arith in z) (h 0 f refl),
  counted_all C (suc j) counts fs (λ k g e. subst (λ (i : ℕ). C (g, get_or counts i 0)) (let z : j + suc k ≡ suc j + k = omega arith in z) (h (suc k) g e)),
)

-- what holds of each that stood before, by what comes
pub changed_all_by : (C : Coming → Type 0) (B P : ComponentState → Type 0) → Marks P → ((n : Coming) → C n → P (fresh_part n)) →
    ((p : ComponentState) → B p → P (leaving p)) → ((n : Coming) (p : ComponentState) → B p → C n → name_of n.0 ≡ component_name p → P (meeting n p)) →
    (items : List Fitted) (counts : List ℕ) (steady : Bool) (w : Components)
    → ((k : ℕ) (f : Fitted) → slice_get items k ≡ Some f → C (f, get_or counts k 0)) → AllByRecursion B w.parts →
    AllByRecursion P (changed_to items counts steady w).parts
changed_all_by C B P marks fresh leaves meets items counts steady w c b =
    let ns = counted 0 counts items in
    let a = counted_all C 0 counts items (λ k f e. subst (λ (j : ℕ). C (f, get_or counts j 0)) (let z : k ≡ 0 + k = omega arith in z) (c k f e)) in
    let ps = standing w.parts in
    let met = mapped_all B P (fate ns) (λ p h. fate_by C P p (leaves p h) (λ n x e. meets n p h x e) ns a) ps (standing_all B w.parts b) in
    newcomers_all P (newcomers ns ps) (replanned (map (fate ns) ps))
    (fresh_by C P fresh (λ (n : Coming). not (list_any (λ p. bytes_eq (component_name p) (name_of n.0)) ps)) ns a)
    (restarted_all P marks may_replan same_may (flagged is_replacing (map (fate ns) ps))
    (subst (λ (qs : List ComponentState). AllByRecursion P qs) (sym (firsts_flagged is_replacing (map (fate ns) ps))) met))

pub changed_sound : (items : List Fitted) (counts : List ℕ) (steady : Bool) (w : Components)
    → ((k : ℕ) (f : Fitted) → slice_get items k ≡ Some f → get_or counts k 0 < 3) → IsOrderly w →
    AllByRecursion IsSoundPart (changed_to items counts steady w).parts
changed_sound items counts steady w c i = changed_all_by IsFew IsSoundPart IsSoundPart mark_sound (λ n x. again_sound n [] x) leaving_sound
    (λ n p k x e. meeting_sound n p k x e) items counts steady w c (sound_of w i.sound)

pub changed_counted : (d : Device) (items : List Fitted) (counts : List ℕ) (steady : Bool) (w : Components) → AreCounted d items counts → HasNoneOwed w →
    IsOrderly w → AllByRecursion (IsCounted d) (changed_to items counts steady w).parts
changed_counted d items counts steady w c t i = changed_all_by (IsComing d) Before (IsCounted d) (mark_counted d) (λ n x. again_counted d n [] x)
    (leaving_counted d) (λ n p b x e. meeting_counted d n p b x e) items counts steady w (λ k f e. (c k f e).0)
    (before_of w i t)
