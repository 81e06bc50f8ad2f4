-- How the clauses of calls made one after another join.
use Rattle.std.specs.Prelude.{ℕ, Bool, IsTrue, List}
use Rattle.std.proofs.Common.{inl, inr, ⊎_elim, refl, ◌∙◌, arith}
use Rattle.disk_model.specs.Disk.{Image, Step, IsAfter, HasLeft, DiskLaws}
use Rattle.disk_model.specs.Spares.{IsSameBut, IsFile}

module _ {D : Type 0} {is_modelled : Bool} {seen : D → Image} {may_leave : D → Image → Type 0} {moment : D → ℕ} {left_since : D → ℕ → Image → Type 0}
    (laws : DiskLaws is_modelled seen may_leave moment left_since) where
  -- the images now are among those since the call's start
  pub now : (old new : D) (P : Image → Type 0) → HasLeft moment left_since old new P → (c : Image) → may_leave new c → P c
  now old new P leaves c left = leaves.each c (laws.counts_now new (moment old) c leaves.later left)

  -- before the first call
  pub at_start : (d : D) → HasLeft moment left_since d d (may_leave d)
  at_start d = record {
    later = omega arith;
    each = λ c left. laws.only_now d c left;
    joins = λ t c le left. inl left;
    keeps = λ t c le left. left;
  }

  pub weaker : (old new : D) (P Q : Image → Type 0) → ((c : Image) → P c → Q c) → HasLeft moment left_since old new P → HasLeft moment left_since old new Q
  weaker old new P Q more leaves = record {
    later = leaves.later;
    each = λ c left. more c (leaves.each c left);
    joins = leaves.joins;
    keeps = leaves.keeps;
  }

  -- two calls, one after the other
  pub joined : (old mid new : D) (P Q R : Image → Type 0) → HasLeft moment left_since old mid P → HasLeft moment left_since mid new Q
      → ((c : Image) → P c → R c) → ((c : Image) → Q c → R c) → HasLeft moment left_since old new R
  joined old mid new P Q R first second from_first from_second = record {
    later = omega (arith, first.later, second.later);
    each = λ c left. ⊎_elim (λ l. from_first c (first.each c l)) (λ l. from_second c (second.each c l)) (second.joins (moment old) c first.later left);
    joins = λ t c le left. ⊎_elim
        (λ l. ⊎_elim (λ m. inl m) (λ m. inr (second.keeps (moment old) c first.later m)) (first.joins t c le l))
        (λ l. inr (laws.earlier new (moment old) (moment mid) c first.later l))
        (second.joins t c (omega (arith, le, first.later)) left);
    keeps = λ t c le left. second.keeps t c (omega (arith, le, first.later)) (first.keeps t c le left);
  }

  -- where there is an image, the disk tells
  pub tells_of : (d : D) (c : Image) → may_leave d c → IsTrue is_modelled
  tells_of d c left = laws.modelled d (moment d) c (laws.counts_now d (moment d) c (omega arith) left)

  -- the general form: what held so far, and a call that makes a step of each image there is
  pub then_from : (old mid new : D) (P Q : Image → Type 0) (step : Image → Image → Type 0)
      → HasLeft moment left_since old mid P → HasLeft moment left_since mid new (IsAfter (may_leave mid) step)
      → ((c : Image) → P c → Q c) → ((b c : Image) → may_leave mid b → P b → step b c → Q c)
      → HasLeft moment left_since old new Q
  then_from old mid new P Q step first second stays steps =
      joined old mid new P (IsAfter (may_leave mid) step) Q first second stays
      (λ c was. steps was.0 c was.1 (now old mid P first was.0 was.1) was.2)

  -- a call that changes one file, where M is what the images at its start have there
  pub step_as : (file : List ℕ) (old new : D) (Q S : List ℕ → List ℕ → Type 0) (M : List ℕ → Type 0)
      → HasLeft moment left_since old new (IsAfter (may_leave old) (Step file Q))
      → ((c : Image) → may_leave old c → M (c file))
      → (IsTrue is_modelled → (a b : List ℕ) → M a → Q a b → S a b)
      → HasLeft moment left_since old new (IsAfter (may_leave old) (Step file S))
  step_as file old new Q S M leaves starts gives =
      weaker old new _ _
      (λ c was. (was.0, was.1, record { here = gives (tells_of old was.0 was.1) _ _ (starts was.0 was.1) was.2.here; others = was.2.others }))
      leaves

  -- two calls that change one file: M is what the images at the start have there, and N what those between the calls have
  pub then_step : (file : List ℕ) (old mid new : D) (Q R S : List ℕ → List ℕ → Type 0) (M N : List ℕ → Type 0)
      → HasLeft moment left_since old mid (IsAfter (may_leave old) (Step file Q))
      → HasLeft moment left_since mid new (IsAfter (may_leave mid) (Step file R))
      → ((c : Image) → may_leave old c → M (c file))
      → ((c : Image) → may_leave mid c → N (c file))
      → (IsTrue is_modelled → (a b : List ℕ) → M a → Q a b → S a b)
      → (IsTrue is_modelled → (a b c : List ℕ) → M a → Q a b → N b → R b c → S a c)
      → HasLeft moment left_since old new (IsAfter (may_leave old) (Step file S))
  then_step file old mid new Q R S M N first second starts between once twice =
      joined old mid new _ _ _ first second
      (λ c was. (was.0, was.1, record { here = once (tells_of old was.0 was.1) _ _ (starts was.0 was.1) was.2.here; others = was.2.others }))
      (λ c was.
      let before = now old mid _ first was.0 was.1 in (
        before.0,
        before.1,
        record {
          here = twice (tells_of old before.0 before.1) _ _ _ (starts before.0 before.1) before.2.here (between was.0 was.1) was.2.here;
          others = λ name ne. was.2.others name ne ∙ before.2.others name ne;
        },
      ))

  -- the same, with nothing known of the images
  pub then_on : (file : List ℕ) (old mid new : D) (Q R S : List ℕ → List ℕ → Type 0)
      → HasLeft moment left_since old mid (IsAfter (may_leave old) (Step file Q))
      → HasLeft moment left_since mid new (IsAfter (may_leave mid) (Step file R))
      → ((a b : List ℕ) → Q a b → S a b)
      → ((a b c : List ℕ) → Q a b → R b c → S a c)
      → HasLeft moment left_since old new (IsAfter (may_leave old) (Step file S))
  then_on file old mid new Q R S first second once twice =
      then_step file old mid new Q R S (λ _. Unit {0}) (λ _. Unit {0}) first second (λ _ _. tt) (λ _ _. tt) (λ _ a b _ q. once a b q)
      (λ _ a b c _ q _ r. twice a b c q r)

  -- a call that changes nothing after one that changes a file
  pub then_same : (old mid new : D) (P : Image → Type 0) → HasLeft moment left_since old mid P → HasLeft moment left_since mid new (may_leave mid) →
      HasLeft moment left_since old new P
  then_same old mid new P first second = joined old mid new P (may_leave mid) P first second (λ c p. p) (λ c left. now old mid P first c left)

  -- a call that changes nothing before one that changes a file
  pub same_then : (file : List ℕ) (old mid new : D) (Q S : List ℕ → List ℕ → Type 0)
      → HasLeft moment left_since old mid (may_leave old)
      → HasLeft moment left_since mid new (IsAfter (may_leave mid) (Step file Q))
      → ((a : List ℕ) → S a a) → ((a b : List ℕ) → Q a b → S a b)
      → HasLeft moment left_since old new (IsAfter (may_leave old) (Step file S))
  same_then file old mid new Q S first second none more =
      joined old mid new _ _ _ first second
      (λ c left. (c, left, record { here = none (c file); others = λ name ne. refl }))
      (λ c was. (was.0, now old mid _ first was.0 was.1, record { here = more _ _ was.2.here; others = was.2.others }))

  -- two calls that leave all but these files alone
  pub then_spares : (files : List ℕ → Type 0) (old mid new : D) → HasLeft moment left_since old mid (IsAfter (may_leave old) (IsSameBut files))
      → HasLeft moment left_since mid new (IsAfter (may_leave mid) (IsSameBut files))
      → HasLeft moment left_since old new (IsAfter (may_leave old) (IsSameBut files))
  then_spares files old mid new first second =
      joined old mid new _ _ _ first second (λ c p. p)
      (λ c was.
      let before = now old mid (IsAfter (may_leave old) (IsSameBut files)) first was.0 was.1 in
      (before.0, before.1, λ name spared. was.2 name spared ∙ before.2 name spared))

-- a step that allows more
pub after_more : (images : Image → Type 0) (file : List ℕ) (Q S : List ℕ → List ℕ → Type 0) → ((a b : List ℕ) → Q a b → S a b) → (c : Image) →
    IsAfter images (Step file Q) c → IsAfter images (Step file S) c
after_more images file Q S more c was = (was.0, was.1, record { here = more _ _ was.2.here; others = was.2.others })

-- a change of one file leaves the others alone
pub step_spares : (images : Image → Type 0) (file : List ℕ) (change : List ℕ → List ℕ → Type 0) (c : Image) → IsAfter images (Step file change) c →
    IsAfter images (IsSameBut (IsFile file)) c
step_spares images file change c was = (was.0, was.1, λ name ne. was.2.others name ne)

-- and so does no change
pub none_spares : (images : Image → Type 0) (files : List ℕ → Type 0) (c : Image) → images c → IsAfter images (IsSameBut files) c
none_spares images files c left = (c, left, λ name spared. refl)

-- what leaves all but these files alone leaves all but more files alone
pub spares_more : (images : Image → Type 0) (files more : List ℕ → Type 0) → ((name : List ℕ) → files name → more name) → (c : Image) →
    IsAfter images (IsSameBut files) c → IsAfter images (IsSameBut more) c
spares_more images files more wider c was = (was.0, was.1, λ name spared. was.2 name (λ inside. spared (wider name inside)))
