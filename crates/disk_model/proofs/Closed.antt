-- The steps of the crash model and its one sentence say the same.
use Rattle.std.proofs.Common.{◌≡◌, ◌≢◌, ◌⊎◌, ◌↔◌, inl, inr, ⊎_elim, ℕ, zero, suc, ◌+◌, ◌-◌, ◌<◌, ◌≤◌, min, max, Bool, true, false, if◌then◌else◌, List, []}
use Rattle.std.proofs.Common.{◌∷◌, ◌++◌, length, get_or, take, drop, refl, sym, ◌∙◌, ap, subst, arith, length-append, length-drop, length-take}
use Rattle.std.specs.Str.{bytes_eq}
use Rattle.std.proofs.lemmas.Bool.{cases_lt}
use Rattle.std.proofs.lemmas.List.{ext_get_or, get_or-take, get_or-drop}
use Rattle.std.proofs.lemmas.Slice.Eq.{bytes_eq-Decides}
use Rattle.disk_model.specs.Disk.{Image, Torn, Cut, Step, IsAfter}
use Rattle.disk_model.specs.Crash.{Unsynced, stable, MayHold, resized, rewritten, unsynced_step, unsynced_after, all_stable}
use Rattle.disk_model.specs.Put.{put, overwritten}
use Rattle.disk_model.specs.Record.{seen_step, images_step, images_after, left_after}
use Rattle.disk_model.specs.Laws.Replay.{put_here, put_other, reads_step}
use Rattle.disk_model.specs.declared.record.Call.{Call}
use Rattle.disk_model.specs.declared.record.Call.TheVariants.{Write as Written, Cut as CutTo, Sync as Synced}

-- the list of the first values of a function
abbrev table : (ℕ → ℕ) → ℕ → List ℕ
table f zero = []
table f (suc n) = f 0 ∷ table (λ i. f (suc i)) n

length-table : (f : ℕ → ℕ) (n : ℕ) → length (table f n) ≡ n
length-table f zero = refl
length-table f (suc n) = ap suc (length-table (λ i. f (suc i)) n)

get_or-table : (f : ℕ → ℕ) (n i : ℕ) → i < n → get_or (table f n) i 0 ≡ f i
get_or-table f zero i lt = absurd (omega arith)
get_or-table f (suc n) zero lt = refl
get_or-table f (suc n) (suc i) lt = get_or-table (λ i. f (suc i)) n i (omega arith)

-- the one outside of a range, and the other in it
abbrev pick_at : (i at n : ℕ) → (i < at) ⊎ (at ≤ i) → (i < at + n) ⊎ (at + n ≤ i) → ℕ → ℕ → ℕ
pick_at i at n (inl low) t out within = out
pick_at i at n (inr up) (inl low) out within = within
pick_at i at n (inr up) (inr past) out within = out

pick_out : (i at n : ℕ) (s : (i < at) ⊎ (at ≤ i)) (t : (i < at + n) ⊎ (at + n ≤ i)) (out within : ℕ) → (i < at) ⊎ (at + n ≤ i) → pick_at i at n s t out within
    ≡ out
pick_out i at n (inl low) t out within o = refl
pick_out i at n (inr up) (inl low) out within (inl lt) = absurd (omega arith)
pick_out i at n (inr up) (inl low) out within (inr ge) = absurd (omega arith)
pick_out i at n (inr up) (inr past) out within o = refl

pick_either : (i at n : ℕ) (s : (i < at) ⊎ (at ≤ i)) (t : (i < at + n) ⊎ (at + n ≤ i)) (out within want : ℕ) → (((at ≤ i) × (i < at + n) → ⊥) → out ≡ want) →
    within ≡ want → pick_at i at n s t out within ≡ want
pick_either i at n (inl low) t out within want o w = o (λ r. omega (arith, r.0))
pick_either i at n (inr up) (inl low) out within want o w = w
pick_either i at n (inr up) (inr past) out within want o w = o (λ r. omega (arith, r.1))

module _ (u : Unsynced) (seen : ℕ) (low : u.least ≤ seen) (high : seen ≤ u.greatest) where
  -- a torn write of what a crash may leave is what it may leave
  pub write_sound : (len at n : ℕ) → at ≤ seen → len ≡ max seen (at + n) → (b c : List ℕ) → MayHold u b → Torn at n b c → MayHold (rewritten len at n u) c
  write_sound len at n within is b c may torn = record {
    no_shorter = omega (arith, may.no_shorter, torn.no_shorter);
    no_longer = omega (arith, may.no_longer, torn.no_longer, is, high);
    stays = λ i lt firm. elim (cases_lt i at) [
      | inl before ↦
          let same : get_or c i 0 ≡ get_or b i 0 = sym (get_or-take at c i 0 before) ∙ ap (λ (l : List ℕ). get_or l i 0) torn.before ∙ get_or-take at b i 0
          before in
          let there : i < length b = omega (arith, ap length torn.before, length-take at c, length-take at b) in
          same ∙ may.stays i there (λ loose. firm (⊎_elim (λ past. inl past) (λ w. inr (inr w)) loose))
      | inr from ↦ elim (cases_lt i (at + n)) [
        | inl inside ↦ absurd (firm (inr (inl (from, inside))))
        | inr behind ↦
            let place : at + n + (i - (at + n)) ≡ i = omega arith in
            let same : get_or c i 0 ≡ get_or b i 0 =
            ap (λ (k : ℕ). get_or c k 0) (sym place) ∙ sym (get_or-drop (at + n) c (i - (at + n)) 0) ∙ ap (λ (l : List ℕ). get_or l (i - (at + n)) 0) torn.after
            ∙ get_or-drop (at + n) b (i - (at + n)) 0 ∙ ap (λ (k : ℕ). get_or b k 0) place in
            let there : i < length b = omega (arith, ap length torn.after, length-drop (at + n) c, length-drop (at + n) b) in
            same ∙ may.stays i there (λ loose. firm (⊎_elim (λ past. inl past) (λ w. inr (inr w)) loose))
      ]
    ];
  }

  -- and each such is one
  pub write_complete : (len at n : ℕ) → at ≤ seen → len ≡ max seen (at + n) → (c : List ℕ) → MayHold (rewritten len at n u) c → (b : List ℕ) × MayHold u b ×
      Torn at n b c
  write_complete len at n within is c may = (table value size, held, torn)
    where
      size : ℕ
      size = min u.greatest (length c)

      value : ℕ → ℕ
      value i = pick_at i at n (cases_lt i at) (cases_lt i (at + n)) (get_or c i 0) (get_or u.held i 0)

      before_at : (i : ℕ) → i < size → (i < at) ⊎ (at + n ≤ i) → get_or c i 0 ≡ get_or (table value size) i 0
      before_at i lt out = sym (get_or-table value size i lt ∙ pick_out i at n (cases_lt i at) (cases_lt i (at + n)) (get_or c i 0) (get_or u.held i 0) out)

      held : MayHold u (table value size)
      held = record {
        no_shorter = omega (arith, length-table value size, low, high, may.no_shorter, is);
        no_longer = omega (arith, length-table value size);
        stays = λ i lt firm.
            let there : i < size = omega (arith, length-table value size) in
            get_or-table value size i there
            ∙ pick_either i at n (cases_lt i at) (cases_lt i (at + n)) (get_or c i 0) (get_or u.held i 0) (get_or u.held i 0)
            (λ out. may.stays i (omega (arith, there)) (λ loose. ⊎_elim (λ past. firm (inl past)) (λ w. ⊎_elim (λ r. out r) (λ v. firm (inr v)) w) loose)) refl;
      }

      torn : Torn at n (table value size) c
      torn = record {
        before = ext_get_or 0 (take at c) (take at (table value size))
            (omega (arith, length-take at c, length-take at (table value size), length-table value size, high))
            (λ i lt.
            let prefix : i < at = omega (arith, length-take at c) in
            get_or-take at c i 0 prefix ∙ before_at i (omega (arith, length-take at c, high)) (inl prefix)
            ∙ sym (get_or-take at (table value size) i 0 prefix));
        after = ext_get_or 0 (drop (at + n) c) (drop (at + n) (table value size))
            (omega (arith, length-drop (at + n) c, length-drop (at + n) (table value size), length-table value size, high, may.no_longer, is))
            (λ i lt.
            get_or-drop (at + n) c i 0 ∙ before_at (at + n + i) (omega (arith, length-drop (at + n) c, high, may.no_longer, is)) (inr (omega arith)) ∙ sym
            (get_or-drop (at + n) (table value size) i 0));
        no_shorter = omega (arith, length-table value size);
        no_longer = omega (arith, length-table value size, may.no_longer, is, high);
      }

  pub cut_sound : (len n : ℕ) → len ≡ min n seen → (b c : List ℕ) → MayHold u b → Cut n b c → MayHold (resized len u) c
  cut_sound len n is b c may cut = record {
    no_shorter = omega (arith, may.no_shorter, cut.no_shorter, is, low);
    no_longer = omega (arith, may.no_longer, shorter);
    stays = λ i lt firm. ap (λ (l : List ℕ). get_or l i 0) cut.prefix ∙ get_or-take (length c) b i 0 lt ∙ may.stays i (omega (arith, shorter)) firm;
  }
    where
      shorter : length c ≤ length b
      shorter = omega (arith, ap length cut.prefix, length-take (length c) b)

  pub cut_complete : (len n : ℕ) → len ≡ min n seen → (c : List ℕ) → MayHold (resized len u) c → (b : List ℕ) × MayHold u b × Cut n b c
  cut_complete len n is c may = (table value size, held, cut)
    where
      size : ℕ
      size = max (length c) u.least

      value : ℕ → ℕ
      value i = pick_at i (length c) u.least (cases_lt i (length c)) (cases_lt i (length c + u.least)) (get_or c i 0) (get_or u.held i 0)

      held : MayHold u (table value size)
      held = record {
        no_shorter = omega (arith, length-table value size);
        no_longer = omega (arith, length-table value size, low, high, may.no_longer, is);
        stays = λ i lt firm.
            let there : i < size = omega (arith, length-table value size) in
            get_or-table value size i there
            ∙ pick_either i (length c) u.least (cases_lt i (length c)) (cases_lt i (length c + u.least)) (get_or c i 0) (get_or u.held i 0) (get_or u.held i 0)
            (λ out. may.stays i (elim (cases_lt i (length c)) [ inl within ↦ within | inr past ↦ absurd (out (past, omega arith)) ]) firm) refl;
      }

      cut : Cut n (table value size) c
      cut = record {
        no_shorter = omega (arith, length-table value size, may.no_shorter, is, low);
        prefix = ext_get_or 0 c (take (length c) (table value size)) (omega (arith, length-take (length c) (table value size), length-table value size))
            (λ i lt. sym (get_or-take (length c) (table value size) i 0 lt ∙ get_or-table value size i (omega arith)
            ∙ pick_out i (length c) u.least (cases_lt i (length c)) (cases_lt i (length c + u.least)) (get_or c i 0) (get_or u.held i 0) (inl lt)));
      }

pub stable_sound : (s c : List ℕ) → c ≡ s → MayHold (stable s) c
stable_sound s c is = record {
  no_shorter = omega (arith, ap length is);
  no_longer = omega (arith, ap length is);
  stays =
      λ i lt firm. ap (λ (l : List ℕ). get_or l i 0) is;
}

pub stable_complete : (s c : List ℕ) → MayHold (stable s) c → c ≡ s
stable_complete s c may = ext_get_or 0 c s (omega (arith, may.no_shorter, may.no_longer))
    (λ i lt. may.stays i lt (λ loose. ⊎_elim (λ past. omega (arith, may.no_longer)) (λ none. none) loose))

-- cases on a name
pub at_name : (P : Unsynced → Type 0) (file : List ℕ) (u : Unsynced) (of : List ℕ → Unsynced) (name : List ℕ) → (name ≡ file → P u) →
    (name ≢ file → P (of name)) → P (if bytes_eq name file then u else of name)
at_name P file u of name here there = by_test (bytes_eq name file) refl
  where
    by_test : (b : Bool) → bytes_eq name file ≡ b → P (if bytes_eq name file then u else of name)
    by_test true is = subst (λ (b : Bool). P (if b then u else of name)) (sym is) (here ((bytes_eq-Decides name file).0 is))
    by_test false is = subst (λ (b : Bool). P (if b then u else of name)) (sym is) (there (λ same. absurd (cc (is, (bytes_eq-Decides name file).1 same))))

-- what a property says at that name and at another
pub name_here : (P : Unsynced → Type 0) (file : List ℕ) (u : Unsynced) (of : List ℕ → Unsynced) → P (if bytes_eq file file then u else of file) → P u
name_here P file u of p = subst (λ (b : Bool). P (if b then u else of file)) ((bytes_eq-Decides file file).1 refl) p

pub name_there : (P : Unsynced → Type 0) (file : List ℕ) (u : Unsynced) (of : List ℕ → Unsynced) (name : List ℕ) → name ≢ file →
    P (if bytes_eq name file then u else of name) → P (of name)
name_there P file u of name ne p = by_test (bytes_eq name file) refl
  where
    by_test : (b : Bool) → bytes_eq name file ≡ b → P (of name)
    by_test true is = absurd (ne ((bytes_eq-Decides name file).0 is))
    by_test false is = subst (λ (b : Bool). P (if b then u else of name)) is p

pub length-over : (at : ℕ) (bytes old : List ℕ) → length (overwritten at bytes old) ≡ max (length old) (min at (length old) + length bytes)
length-over at bytes old =
    omega (
      arith,
      length-append (take at old ++ bytes) (drop (at + length bytes) old),
      length-append (take at old) bytes,
      length-take at old,
      length-drop (at + length bytes) old,
    )

-- the images are those whose every file may be held
abbrev pub Says : (Image → Type 0) → (List ℕ → Unsynced) → Type 0
Says images of = (c : Image) → images c ↔ ((name : List ℕ) → MayHold (of name) (c name))

-- a change of one file
change_says : (images : Image → Type 0) (of : List ℕ → Unsynced) (file : List ℕ) (u : Unsynced) (change : List ℕ → List ℕ → Type 0)
    → ((b c : List ℕ) → MayHold (of file) b → change b c → MayHold u c)
    → ((c : List ℕ) → MayHold u c → (b : List ℕ) × MayHold (of file) b × change b c)
    → Says images of → Says (IsAfter images (Step file change)) (λ name. if bytes_eq name file then u else of name)
change_says images of file u change sound complete says c = (
  λ was name. at_name (λ (v : Unsynced). MayHold v (c name)) file u of name
      (λ same. subst (λ (n : List ℕ). MayHold u (c n)) (sym same) (sound (was.0 file) (c file) ((says was.0).0 was.1 file) was.2.here))
      (λ ne. subst (λ (l : List ℕ). MayHold (of name) l) (sym (was.2.others name ne)) ((says was.0).0 was.1 name)),
  λ may.
      let back = complete (c file) (name_here (λ (v : Unsynced). MayHold v (c file)) file u of (may file)) in
      let before : Image = put file back.0 c in
      let here : before file ≡ back.0 = put_here file back.0 c in (
        before,
        (says before).1 (λ name. put_cases file back.0 c name (λ l. MayHold (of name) l)
            (λ same. subst (λ (n : List ℕ). MayHold (of n) back.0) (sym same) back.1)
            (λ ne. name_there (λ (v : Unsynced). MayHold v (c name)) file u of name ne (may name))),
        record {
          here = subst (λ (l : List ℕ). change l (c file)) (sym here) back.2;
          others = λ name ne. sym (put_other file back.0 c name ne);
        },
      ),
)
  where
    put_cases : (g bytes : List ℕ) (i : Image) (name : List ℕ) (P : List ℕ → Type 0) → (name ≡ g → P bytes) → (name ≢ g → P (i name)) → P (put g bytes i name)
    put_cases g bytes i name P same other = by_test (bytes_eq name g) refl
      where
        by_test : (b : Bool) → bytes_eq name g ≡ b → P (if bytes_eq name g then bytes else i name)
        by_test true is = subst (λ (b : Bool). P (if b then bytes else i name)) (sym is) (same ((bytes_eq-Decides name g).0 is))
        by_test false is = subst (λ (b : Bool). P (if b then bytes else i name)) (sym is) (other (λ eq. absurd (cc (is, (bytes_eq-Decides name g).1 eq))))

sync_says : (file : List ℕ) (seen : Image) (images : Image → Type 0) (of : List ℕ → Unsynced) → images seen → Says images of →
    Says (λ c. images c × (c file ≡ seen file)) (λ name. if bytes_eq name file then stable (seen file) else of name)
sync_says file seen images of is says c = (
  λ was name. at_name (λ (v : Unsynced). MayHold v (c name)) file (stable (seen file)) of name
      (λ same. subst (λ (n : List ℕ). MayHold (stable (seen file)) (c n)) (sym same) (stable_sound (seen file) (c file) was.1))
      (λ ne. (says c).0 was.0 name),
  λ may.
      let here : c file ≡ seen file = stable_complete (seen file) (c file) (name_here (λ (v : Unsynced). MayHold v (c file)) file (stable (seen file)) of
      (may file)) in (
        (says c).1 (λ name. by_test name (bytes_eq name file) refl (may name) here),
        here,
      ),
)
  where
    by_test : (name : List ℕ) (b : Bool) → bytes_eq name file ≡ b → MayHold (if bytes_eq name file then stable (seen file) else of name) (c name) →
        c file ≡ seen file → MayHold (of name) (c name)
    by_test name true same may here =
        let named : name ≡ file = (bytes_eq-Decides name file).0 same in
        subst (λ (n : List ℕ). MayHold (of n) (c n)) (sym named) (subst (λ (l : List ℕ). MayHold (of file) l) (sym here) ((says seen).0 is file))
    by_test name false same may here = subst (λ (b : Bool). MayHold (if b then stable (seen file) else of name) (c name)) same may

says_step : (call : Call) (seen : Image) (images : Image → Type 0) (of : List ℕ → Unsynced) → images seen → Says images of →
    Says (images_step call seen images) (unsynced_step call seen of)
says_step (Written file at bytes) seen images of is says =
    let may = (says seen).0 is file in
    let len = length (overwritten at bytes (seen file)) in
    let place = min at (length (seen file)) in
    change_says images of file _ (Torn place (length bytes))
    (write_sound (of file) (length (seen file)) may.no_shorter may.no_longer len place (length bytes) (omega arith) (length-over at bytes (seen file)))
    (write_complete (of file) (length (seen file)) may.no_shorter may.no_longer len place (length bytes) (omega arith) (length-over at bytes (seen file)))
    says
says_step (CutTo file n) seen images of is says =
    let may = (says seen).0 is file in
    let len = length (take n (seen file)) in
    change_says images of file _ (Cut n)
    (cut_sound (of file) (length (seen file)) may.no_shorter may.no_longer len n (length-take n (seen file)))
    (cut_complete (of file) (length (seen file)) may.no_shorter may.no_longer len n (length-take n (seen file)))
    says
says_step (Synced file) seen images of is says = sync_says file seen images of is says

says_after : (calls : List Call) (seen : Image) (images : Image → Type 0) (of : List ℕ → Unsynced) → images seen → Says images of →
    Says (images_after calls seen images) (unsynced_after calls seen of)
says_after [] seen images of is says = says
says_after (call ∷ calls) seen images of is says =
    says_after calls (seen_step call seen) (images_step call seen images) (unsynced_step call seen of) (reads_step call seen images is)
    (says_step call seen images of is says)

-- what a crash may leave after a record of calls
pub closed : (calls : List Call) (start : Image) → Says (left_after calls start) (unsynced_after calls start (all_stable start))
closed calls start = says_after calls start (λ c. c ≡ start) (all_stable start) refl (λ c. (
  λ is name. stable_sound (start name) (c name) (ap (λ (i : Image). i name) is),
  λ may. λ j name. (stable_complete (start name) (c name) (may name)) j,
))
