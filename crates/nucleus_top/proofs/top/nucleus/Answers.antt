use Rattle.std.proofs.Common.{◌≡◌, ◌⊎◌, ⊎_elim, List, ℕ, map, string_bytes, inl, inr, refl, subst, arith}
use Rattle.std.proofs.KnownBytes.{Appends-nil}
use Rattle.nuc_base.specs.declared.status.Status.TheVariants as status
use Rattle.command_words.specs.declared.order.Order.TheVariants as orders
use Rattle.library_core.proofs.Telling.{stays_same}
use Rattle.admission.specs.declared.ask.Ask.{Ask}
use Rattle.nucleus_top.specs.Asked.{AreWordsFor}
use Rattle.nucleus_top.specs.Drives.{AsksTo, IsDeployed, IsRefusedBefore, MayNotDeploy}
use Rattle.nucleus_top.specs.Parts.{setting_of}
use Rattle.nucleus_top.specs.Serving.{IsServed}
use Rattle.session_serving.specs.Parts.{Outside, outside}
use Rattle.nucleus_top.specs.declared.asking.Asked.TheVariants as asked
use Rattle.nucleus_top.specs.declared.answer.Answer.TheVariants as answer
use Rattle.nucleus_top.specs.Answers.{Input, Printed, Shelf, Store, input_of, printed_of, shelf_of, store_of}
use Rattle.nucleus_top.proofs.Crashes.{same_left}
use Rattle.nucleus_top.proofs.DriveEnds.{deployed_is_on, pending_parts, refused_parts, resumed_is_on, served_is_on, starved, withholds_refused}
use Rattle.nucleus_top.proofs.Driven.{asks_one, no_quiet, no_quiet_deploy, not_both, serves_alone, serves_once, start_spared, stays, unasked_by}
use Rattle.nucleus_top.proofs.Driven.{unread_drives, unread_parts}
use Rattle.nucleus_top.proofs.Images.{by_none}
use Rattle.disk_model.specs.Moments.{at_start}
use Rattle.nucleus_top.proofs.Whole.{same_kept}
use Rattle.nucleus_top.proofs.Reading.{reads_none}
use Rattle.nucleus_top.proofs.top.nucleus.Goals as goal

-- ---- want of memory

pub returns-in-NoMemory-clause-parts : goal.returns-in-NoMemory-clause-parts
returns-in-NoMemory-clause-parts g c = λ other.
    let words : List (List ℕ) = map string_bytes c.args.words.now.items in
    let store : Store = store_of g.D.Disk.is_modelled g.D.Disk.seen g.D.Disk.faults c.args.disk.now c.args.disk.now in
    let input : Input = input_of g.S.Source.left g.S.Source.faults c.args.source.now c.args.source.now in
    let library : Shelf = shelf_of g.L.Library.content g.L.Library.faults c.args.library.now c.args.library.now in
    let printed : Printed = printed_of g.K.Sink.held g.K.Sink.faults c.args.sink.now c.args.sink.now in
    unread_parts (setting_of c.args.version.now (g.D.Disk.writer c.args.disk.now)) words store input library printed refl refl refl refl refl
    c.words_ask_one_thing.ensures (Appends-nil (g.K.Sink.held c.args.sink.now))

pub returns-in-NoMemory-clause-moments : goal.returns-in-NoMemory-clause-moments
returns-in-NoMemory-clause-moments g c = λ other. by_none g.met.D.Disk.laws (map string_bytes c.args.words.now.items) c.args.disk.now c.args.disk.now
    (at_start g.met.D.Disk.laws c.args.disk.now)

pub returns-in-NoMemory-clause-durable : goal.returns-in-NoMemory-clause-durable
returns-in-NoMemory-clause-durable g c = λ order asks is. cc

pub returns-in-NoMemory-clause-others : goal.returns-in-NoMemory-clause-others
returns-in-NoMemory-clause-others g c = λ order asks told name outside. refl

pub returns-in-NoMemory-clause-deploys : goal.returns-in-NoMemory-clause-deploys
returns-in-NoMemory-clause-deploys g c = λ root asks. inl (
  record {
    answer = answer.NoMemory;
    why = inl refl;
    is_printed = inl (refl, Appends-nil (g.K.Sink.held c.args.sink.now), refl);
    spared = start_spared g.met.D.Disk.laws c.args.disk.now;
    images = same_left g.met.D.Disk.laws c.args.disk.now c.args.disk.now (at_start g.met.D.Disk.laws c.args.disk.now);
    whole = same_kept g.met.D.Disk.laws c.args.disk.now c.args.disk.now (at_start g.met.D.Disk.laws c.args.disk.now);
    ends = inl (refl {a = c.args.disk.now});
    reads = inr (refl {a = g.D.Disk.seen c.args.disk.now});
  },
  refl {a = c.args.runner.now},
)

pub returns-in-NoMemory-clause-resumes : goal.returns-in-NoMemory-clause-resumes
returns-in-NoMemory-clause-resumes g c = λ root asks. inl (
  record {
    answer = answer.NoMemory;
    why = inl refl;
    is_printed = inl (refl, Appends-nil (g.K.Sink.held c.args.sink.now), refl);
    spared = start_spared g.met.D.Disk.laws c.args.disk.now;
    images = same_left g.met.D.Disk.laws c.args.disk.now c.args.disk.now (at_start g.met.D.Disk.laws c.args.disk.now);
    whole = same_kept g.met.D.Disk.laws c.args.disk.now c.args.disk.now (at_start g.met.D.Disk.laws c.args.disk.now);
    ends = inl (refl {a = c.args.disk.now});
    reads = inr (refl {a = g.D.Disk.seen c.args.disk.now});
  },
  refl {a = c.args.runner.now},
)

pub returns-in-NoMemory-clause-driven : goal.returns-in-NoMemory-clause-driven
returns-in-NoMemory-clause-driven g c = λ drives.
    let words : List (List ℕ) = map string_bytes c.args.words.now.items in
    let store : Store = store_of g.D.Disk.is_modelled g.D.Disk.seen g.D.Disk.faults c.args.disk.now c.args.disk.now in
    let input : Input = input_of g.S.Source.left g.S.Source.faults c.args.source.now c.args.source.now in
    let library : Shelf = shelf_of g.L.Library.content g.L.Library.faults c.args.library.now c.args.library.now in
    let printed : Printed = printed_of g.K.Sink.held g.K.Sink.faults c.args.sink.now c.args.sink.now in
    unread_drives (setting_of c.args.version.now (g.D.Disk.writer c.args.disk.now)) words store input library printed refl refl refl refl refl

-- ---- deploy

pub returns-in-Deploy-clause-parts : goal.returns-in-Deploy-clause-parts
returns-in-Deploy-clause-parts g c = λ other.
    let words : List (List ℕ) = map string_bytes c.args.words.now.items in
    let asks : AsksTo words c.in-Deploy.what = c.in-Deploy.ensures in
    absurd (other (inl (inl (c.in-Deploy.what, asks))))

pub returns-in-Deploy-clause-unread : goal.returns-in-Deploy-clause-unread
returns-in-Deploy-clause-unread g c = λ other. absurd (other (c.in-Deploy.what, c.in-Deploy.ensures))

pub returns-in-Deploy-clause-unasked : goal.returns-in-Deploy-clause-unasked
returns-in-Deploy-clause-unasked g c = λ other plan why. unasked_by (map string_bytes c.args.words.now.items) c.in-Deploy.what c.in-Deploy.ensures other
    (c.deploy.new.library ≡ c.args.library.now) c.deploy.ensures.unasked

pub returns-in-Deploy-clause-moments : goal.returns-in-Deploy-clause-moments
returns-in-Deploy-clause-moments g c = λ other.
    let words : List (List ℕ) = map string_bytes c.args.words.now.items in
    let asks : AsksTo words c.in-Deploy.what = c.in-Deploy.ensures in
    absurd (other (inl (inl (c.in-Deploy.what, asks))))

pub returns-in-Deploy-clause-still : goal.returns-in-Deploy-clause-still
returns-in-Deploy-clause-still g c = λ other.
    let words : List (List ℕ) = map string_bytes c.args.words.now.items in
    let asks : AsksTo words c.in-Deploy.what = c.in-Deploy.ensures in
    absurd (other (inl (inl (c.in-Deploy.what, asks))))

pub returns-in-Deploy-clause-durable : goal.returns-in-Deploy-clause-durable
returns-in-Deploy-clause-durable g c = λ order quiet is.
    let words : List (List ℕ) = map string_bytes c.args.words.now.items in
    absurd (no_quiet_deploy c.words_ask_one_thing.ensures words c.in-Deploy.what order c.in-Deploy.ensures quiet)

pub returns-in-Deploy-clause-others : goal.returns-in-Deploy-clause-others
returns-in-Deploy-clause-others g c = λ order quiet told name outside.
    let words : List (List ℕ) = map string_bytes c.args.words.now.items in
    absurd (no_quiet_deploy c.words_ask_one_thing.ensures words c.in-Deploy.what order c.in-Deploy.ensures quiet)

pub returns-in-Deploy-clause-deploys : goal.returns-in-Deploy-clause-deploys
returns-in-Deploy-clause-deploys g c = λ what asks.
    let same : c.in-Deploy.what ≡ what =
    asks_one c.words_ask_one_thing.ensures (map string_bytes c.args.words.now.items) c.in-Deploy.what what c.in-Deploy.ensures asks in
    let store : Store = store_of g.D.Disk.is_modelled g.D.Disk.seen g.D.Disk.faults c.args.disk.now c.deploy.new.disk in
    let input : Input = input_of g.S.Source.left g.S.Source.faults c.args.source.now c.deploy.new.source in
    let library : Shelf = shelf_of g.L.Library.content g.L.Library.faults c.args.library.now c.deploy.new.library in
    let printed : Printed = printed_of g.K.Sink.held g.K.Sink.faults c.args.sink.now c.deploy.new.sink in
    subst (λ (a : Ask). (IsRefusedBefore g.D.Disk.seen g.D.Disk.may_leave g.D.Disk.moment g.D.Disk.left_since (λ x. MayNotDeploy store input x) c.args.disk.now
    c.deploy.new.disk printed c.deploy.result × (c.deploy.new.runner ≡ c.args.runner.now))
    ⊎ IsDeployed g.D.Disk.may_leave g.D.Disk.moment g.D.Disk.left_since g.D.Disk.faults c.args.disk.now c.deploy.new.disk (g.R.Runner.list c.args.runner.now)
    (g.R.Runner.list c.deploy.new.runner) printed c.deploy.result a store input library) same c.deploy.ensures.ran

pub returns-in-Deploy-clause-resumes : goal.returns-in-Deploy-clause-resumes
returns-in-Deploy-clause-resumes g c = λ root is.
    let words : List (List ℕ) = map string_bytes c.args.words.now.items in
    absurd (not_both c.words_ask_one_thing.ensures words c.in-Deploy.what root c.in-Deploy.ensures is)

pub returns-in-Deploy-clause-driven : goal.returns-in-Deploy-clause-driven
returns-in-Deploy-clause-driven g c = λ drives. record {
  disk = c.deploy.ensures.disk;
  disk_stays = c.deploy.ensures.quiet_disk;
  edge = c.deploy.ensures.edge;
  edges_stay = λ other. (c.deploy.ensures.quiet_source other, c.deploy.ensures.quiet_sink other);
  library_failed = c.deploy.ensures.library;
  library_stays = c.deploy.ensures.library_quiet;
  others = c.deploy.ensures.others;
  swept = c.deploy.ensures.swept;
}

pub returns-in-Deploy-clause-library_kept : goal.returns-in-Deploy-clause-library_kept
returns-in-Deploy-clause-library_kept g c = λ other. c.deploy.ensures.kept

pub returns-in-Deploy-clause-library_later : goal.returns-in-Deploy-clause-library_later
returns-in-Deploy-clause-library_later g c = c.deploy.ensures.library_later

pub returns-in-Deploy-clause-source_later : goal.returns-in-Deploy-clause-source_later
returns-in-Deploy-clause-source_later g c = c.deploy.ensures.source_later

pub returns-in-Deploy-clause-none : goal.returns-in-Deploy-clause-none
returns-in-Deploy-clause-none g c = c.deploy.ensures.none

pub returns-in-Deploy-clause-disk_later : goal.returns-in-Deploy-clause-disk_later
returns-in-Deploy-clause-disk_later g c = c.deploy.ensures.later.0

pub returns-in-Deploy-clause-sink_later : goal.returns-in-Deploy-clause-sink_later
returns-in-Deploy-clause-sink_later g c = c.deploy.ensures.later.1

-- ---- resume

pub returns-in-Resume-clause-parts : goal.returns-in-Resume-clause-parts
returns-in-Resume-clause-parts g c = λ other.
    let words : List (List ℕ) = map string_bytes c.args.words.now.items in
    let asks : AreWordsFor words asked.Resume = c.in-Resume.ensures in
    absurd (other (inl (inr asks)))

pub returns-in-Resume-clause-moments : goal.returns-in-Resume-clause-moments
returns-in-Resume-clause-moments g c = λ other.
    let words : List (List ℕ) = map string_bytes c.args.words.now.items in
    let asks : AreWordsFor words asked.Resume = c.in-Resume.ensures in
    absurd (other (inl (inr asks)))

pub returns-in-Resume-clause-still : goal.returns-in-Resume-clause-still
returns-in-Resume-clause-still g c = λ other.
    let words : List (List ℕ) = map string_bytes c.args.words.now.items in
    let asks : AreWordsFor words asked.Resume = c.in-Resume.ensures in
    absurd (other (inl (inr asks)))

pub returns-in-Resume-clause-durable : goal.returns-in-Resume-clause-durable
returns-in-Resume-clause-durable g c = λ order quiet is.
    let words : List (List ℕ) = map string_bytes c.args.words.now.items in
    let asks : AreWordsFor words asked.Resume = c.in-Resume.ensures in
    absurd (no_quiet c.words_ask_one_thing.ensures words asks.0 order orders.Resume (λ built. built) asks.1 quiet)

pub returns-in-Resume-clause-others : goal.returns-in-Resume-clause-others
returns-in-Resume-clause-others g c = λ order quiet told name outside.
    let words : List (List ℕ) = map string_bytes c.args.words.now.items in
    let asks : AreWordsFor words asked.Resume = c.in-Resume.ensures in
    absurd (no_quiet c.words_ask_one_thing.ensures words asks.0 order orders.Resume (λ built. built) asks.1 quiet)

pub returns-in-Resume-clause-resumes : goal.returns-in-Resume-clause-resumes
returns-in-Resume-clause-resumes g c = λ root is. c.resume.ensures.ran

pub returns-in-Resume-clause-deploys : goal.returns-in-Resume-clause-deploys
returns-in-Resume-clause-deploys g c = λ what is.
    let words : List (List ℕ) = map string_bytes c.args.words.now.items in
    let asks : AreWordsFor words asked.Resume = c.in-Resume.ensures in
    absurd (not_both c.words_ask_one_thing.ensures words what asks.0 is asks.1)

pub returns-in-Resume-clause-driven : goal.returns-in-Resume-clause-driven
returns-in-Resume-clause-driven g c = λ drives. record {
  disk = c.resume.ensures.disk;
  disk_stays = c.resume.ensures.quiet_disk;
  edge = λ is. inr (c.resume.ensures.edge is);
  edges_stay = λ other. (refl, c.resume.ensures.quiet_sink other);
  library_failed = λ is. absurd (c.resume.ensures.own is);
  library_stays = λ other more. refl;
  others = c.resume.ensures.others;
  swept = c.resume.ensures.swept;
}

pub returns-in-Resume-clause-none : goal.returns-in-Resume-clause-none
returns-in-Resume-clause-none g c = c.resume.ensures.none

pub returns-in-Resume-clause-disk_later : goal.returns-in-Resume-clause-disk_later
returns-in-Resume-clause-disk_later g c = c.resume.ensures.later.0

pub returns-in-Resume-clause-sink_later : goal.returns-in-Resume-clause-sink_later
returns-in-Resume-clause-sink_later g c = c.resume.ensures.later.1

-- ---- serve

pub returns-in-Serve-clause-parts : goal.returns-in-Serve-clause-parts
returns-in-Serve-clause-parts g c = λ other.
    let words : List (List ℕ) = map string_bytes c.args.words.now.items in
    let asks : AreWordsFor words (asked.Serve c.in-Serve.turns) = c.in-Serve.ensures in
    absurd (other (inr (c.in-Serve.turns, asks)))

pub returns-in-Serve-clause-unasked : goal.returns-in-Serve-clause-unasked
returns-in-Serve-clause-unasked g c = λ other plan why.
    let words : List (List ℕ) = map string_bytes c.args.words.now.items in
    let asks : AreWordsFor words (asked.Serve c.in-Serve.turns) = c.in-Serve.ensures in
    absurd (other (inr (c.in-Serve.turns, asks)))

pub returns-in-Serve-clause-uninboxed : goal.returns-in-Serve-clause-uninboxed
returns-in-Serve-clause-uninboxed g c = λ other.
    let words : List (List ℕ) = map string_bytes c.args.words.now.items in
    let asks : AreWordsFor words (asked.Serve c.in-Serve.turns) = c.in-Serve.ensures in
    absurd (other (c.in-Serve.turns, asks))

pub returns-in-Serve-clause-moments : goal.returns-in-Serve-clause-moments
returns-in-Serve-clause-moments g c = λ other.
    let words : List (List ℕ) = map string_bytes c.args.words.now.items in
    let asks : AreWordsFor words (asked.Serve c.in-Serve.turns) = c.in-Serve.ensures in
    absurd (other (inr (c.in-Serve.turns, asks)))

pub returns-in-Serve-clause-still : goal.returns-in-Serve-clause-still
returns-in-Serve-clause-still g c = λ other.
    let words : List (List ℕ) = map string_bytes c.args.words.now.items in
    let asks : AreWordsFor words (asked.Serve c.in-Serve.turns) = c.in-Serve.ensures in
    absurd (other (inr (c.in-Serve.turns, asks)))

pub returns-in-Serve-clause-disk_grows : goal.returns-in-Serve-clause-disk_grows
returns-in-Serve-clause-disk_grows g c = λ other.
    let words : List (List ℕ) = map string_bytes c.args.words.now.items in
    let asks : AreWordsFor words (asked.Serve c.in-Serve.turns) = c.in-Serve.ensures in
    absurd (other (inr (c.in-Serve.turns, asks)))

pub returns-in-Serve-clause-sink_grows : goal.returns-in-Serve-clause-sink_grows
returns-in-Serve-clause-sink_grows g c = λ other.
    let words : List (List ℕ) = map string_bytes c.args.words.now.items in
    let asks : AreWordsFor words (asked.Serve c.in-Serve.turns) = c.in-Serve.ensures in
    absurd (other (inr (c.in-Serve.turns, asks)))

pub returns-in-Serve-clause-durable : goal.returns-in-Serve-clause-durable
returns-in-Serve-clause-durable g c = λ order quiet is.
    let words : List (List ℕ) = map string_bytes c.args.words.now.items in
    let asks : AreWordsFor words (asked.Serve c.in-Serve.turns) = c.in-Serve.ensures in
    absurd (no_quiet c.words_ask_one_thing.ensures words asks.0 order (orders.Serve c.in-Serve.turns) (λ built. built) asks.1 quiet)

pub returns-in-Serve-clause-others : goal.returns-in-Serve-clause-others
returns-in-Serve-clause-others g c = λ order quiet told name outside.
    let words : List (List ℕ) = map string_bytes c.args.words.now.items in
    let asks : AreWordsFor words (asked.Serve c.in-Serve.turns) = c.in-Serve.ensures in
    absurd (no_quiet c.words_ask_one_thing.ensures words asks.0 order (orders.Serve c.in-Serve.turns) (λ built. built) asks.1 quiet)

pub returns-in-Serve-clause-alone : goal.returns-in-Serve-clause-alone
returns-in-Serve-clause-alone g c = λ seed quiet.
    let words : List (List ℕ) = map string_bytes c.args.words.now.items in
    let asks : AreWordsFor words (asked.Serve c.in-Serve.turns) = c.in-Serve.ensures in
    absurd (no_quiet c.words_ask_one_thing.ensures words asks.0 (orders.Workload seed) (orders.Serve c.in-Serve.turns) (λ built. built) asks.1 quiet)

pub returns-in-Serve-clause-deploys : goal.returns-in-Serve-clause-deploys
returns-in-Serve-clause-deploys g c = λ what is.
    let words : List (List ℕ) = map string_bytes c.args.words.now.items in
    let asks : AreWordsFor words (asked.Serve c.in-Serve.turns) = c.in-Serve.ensures in
    absurd (serves_alone c.words_ask_one_thing.ensures words c.in-Serve.turns asks (inl (what, is)))

pub returns-in-Serve-clause-resumes : goal.returns-in-Serve-clause-resumes
returns-in-Serve-clause-resumes g c = λ root is.
    let words : List (List ℕ) = map string_bytes c.args.words.now.items in
    let asks : AreWordsFor words (asked.Serve c.in-Serve.turns) = c.in-Serve.ensures in
    absurd (serves_alone c.words_ask_one_thing.ensures words c.in-Serve.turns asks (inr (root, is)))

pub returns-in-Serve-clause-pending : goal.returns-in-Serve-clause-pending
returns-in-Serve-clause-pending g c = λ deploys.
    let words : List (List ℕ) = map string_bytes c.args.words.now.items in
    let asks : AreWordsFor words (asked.Serve c.in-Serve.turns) = c.in-Serve.ensures in
    absurd (serves_alone c.words_ask_one_thing.ensures words c.in-Serve.turns asks (inl deploys))

pub returns-in-Serve-clause-driven : goal.returns-in-Serve-clause-driven
returns-in-Serve-clause-driven g c = λ drives.
    let words : List (List ℕ) = map string_bytes c.args.words.now.items in
    let asks : AreWordsFor words (asked.Serve c.in-Serve.turns) = c.in-Serve.ensures in
    absurd (serves_alone c.words_ask_one_thing.ensures words c.in-Serve.turns asks drives)

pub returns-in-Serve-clause-serves : goal.returns-in-Serve-clause-serves
returns-in-Serve-clause-serves g c = λ turns is.
    let words : List (List ℕ) = map string_bytes c.args.words.now.items in
    let asks : AreWordsFor words (asked.Serve c.in-Serve.turns) = c.in-Serve.ensures in
    let same = serves_once c.words_ask_one_thing.ensures words c.in-Serve.turns turns asks is in
    let store : Store = store_of g.D.Disk.is_modelled g.D.Disk.seen g.D.Disk.faults c.args.disk.now c.serve.new.disk in
    let old : Outside _ = outside g.D.Disk g.K.Sink g.R.Runner g.L.Library g.I.Inbox c.args.disk.now c.args.sink.now c.args.runner.now c.args.library.now
    c.args.inbox.now in
    let new : Outside _ = outside g.D.Disk g.K.Sink g.R.Runner g.L.Library g.I.Inbox c.serve.new.disk c.serve.new.sink c.serve.new.runner
    c.serve.new.library c.serve.new.inbox in
    ⊎_elim (λ away. inl away)
    (λ served. inr (subst (λ (n : ℕ). IsServed g.D.Disk old new c.serve.result store n) same served))
    c.serve.ensures.ran

pub returns-in-Serve-clause-causes : goal.returns-in-Serve-clause-causes
returns-in-Serve-clause-causes g c = λ asks. c.serve.ensures.caused

pub returns-in-Serve-clause-none : goal.returns-in-Serve-clause-none
returns-in-Serve-clause-none g c = c.serve.ensures.none

pub returns-in-Serve-clause-library_kept : goal.returns-in-Serve-clause-library_kept
returns-in-Serve-clause-library_kept g c = λ other.
    let words : List (List ℕ) = map string_bytes c.args.words.now.items in
    let asks : AreWordsFor words (asked.Serve c.in-Serve.turns) = c.in-Serve.ensures in
    absurd (other (c.in-Serve.turns, asks))

pub returns-in-Serve-clause-disk_later : goal.returns-in-Serve-clause-disk_later
returns-in-Serve-clause-disk_later g c = c.serve.ensures.caused.later.0

pub returns-in-Serve-clause-sink_later : goal.returns-in-Serve-clause-sink_later
returns-in-Serve-clause-sink_later g c = c.serve.ensures.caused.later.1

pub returns-in-Serve-clause-library_later : goal.returns-in-Serve-clause-library_later
returns-in-Serve-clause-library_later g c = c.serve.ensures.caused.library_later

pub returns-in-Serve-clause-read : goal.returns-in-Serve-clause-read
returns-in-Serve-clause-read g c = reads_none 524289 (g.S.Source.left c.args.source.now)

pub returns-in-Serve-clause-refused : goal.returns-in-Serve-clause-refused
returns-in-Serve-clause-refused g c = λ drives.
    let words : List (List ℕ) = map string_bytes c.args.words.now.items in
    let asks : AreWordsFor words (asked.Serve c.in-Serve.turns) = c.in-Serve.ensures in
    let store : Store = store_of g.D.Disk.is_modelled g.D.Disk.seen g.D.Disk.faults c.args.disk.now c.serve.new.disk in
    let input : Input = input_of g.S.Source.left g.S.Source.faults c.args.source.now c.args.source.now in
    let printed : Printed = printed_of g.K.Sink.held g.K.Sink.faults c.args.sink.now c.serve.new.sink in
    let old : Outside _ = outside g.D.Disk g.K.Sink g.R.Runner g.L.Library g.I.Inbox c.args.disk.now c.args.sink.now c.args.runner.now c.args.library.now
    c.args.inbox.now in
    let new : Outside _ = outside g.D.Disk g.K.Sink g.R.Runner g.L.Library g.I.Inbox c.serve.new.disk c.serve.new.sink c.serve.new.runner
    c.serve.new.library c.serve.new.inbox in
    refused_parts store input printed c.serve.result
    (⊎_elim (λ away. inl (away.0.answer, withholds_refused store input away.0.answer away.0.why, away.0.is_printed))
    (λ served. inr (served_is_on g.D.Disk old new c.serve.result store c.in-Serve.turns served)) c.serve.ensures.ran)

-- ---- the other commands do not serve

pub returns-in-NoMemory-clause-library_kept : goal.returns-in-NoMemory-clause-library_kept
returns-in-NoMemory-clause-library_kept g c = λ other. stays_same g.L.Library.content g.L.Library.coming c.args.library.now

pub returns-in-Resume-clause-library_kept : goal.returns-in-Resume-clause-library_kept
returns-in-Resume-clause-library_kept g c = λ other. stays_same g.L.Library.content g.L.Library.coming c.args.library.now

pub returns-in-Other-clause-library_kept : goal.returns-in-Other-clause-library_kept
returns-in-Other-clause-library_kept g c = λ other. c.look.ensures.library_kept

pub returns-in-NoMemory-clause-serves : goal.returns-in-NoMemory-clause-serves
returns-in-NoMemory-clause-serves g c = λ turns asks. inl (
  record {
    answer = answer.NoMemory;
    why = inl refl;
    is_printed = inl (refl, Appends-nil (g.K.Sink.held c.args.sink.now), refl);
    spared = start_spared g.met.D.Disk.laws c.args.disk.now;
    images = same_left g.met.D.Disk.laws c.args.disk.now c.args.disk.now (at_start g.met.D.Disk.laws c.args.disk.now);
    whole = same_kept g.met.D.Disk.laws c.args.disk.now c.args.disk.now (at_start g.met.D.Disk.laws c.args.disk.now);
    ends = inl (refl {a = c.args.disk.now});
    reads = inr (refl {a = g.D.Disk.seen c.args.disk.now});
  },
  refl {a = c.args.runner.now},
  refl {a = c.args.library.now},
  refl {a = c.args.inbox.now},
  λ other more. refl,
)

pub returns-in-NoMemory-clause-causes : goal.returns-in-NoMemory-clause-causes
returns-in-NoMemory-clause-causes g c = λ asks. record {
  disk = λ is. cc;
  edge = λ is. cc;
  quiet_edges = λ other. (refl, refl);
  later = (
    stays (g.D.Disk.faults c.args.disk.now) (g.D.Disk.faults c.args.disk.now) (omega arith),
    stays (g.K.Sink.faults c.args.sink.now) (g.K.Sink.faults c.args.sink.now) (omega arith),
    stays (g.I.Inbox.faults c.args.inbox.now) (g.I.Inbox.faults c.args.inbox.now) (omega arith),
  );
  library_later = omega arith;
  others = λ told name apart outside. refl;
}

pub returns-in-Deploy-clause-serves : goal.returns-in-Deploy-clause-serves
returns-in-Deploy-clause-serves g c = λ turns is.
    let words : List (List ℕ) = map string_bytes c.args.words.now.items in
    absurd (serves_alone c.words_ask_one_thing.ensures words turns is (inl (c.in-Deploy.what, c.in-Deploy.ensures)))

pub returns-in-Deploy-clause-causes : goal.returns-in-Deploy-clause-causes
returns-in-Deploy-clause-causes g c = λ serves.
    let words : List (List ℕ) = map string_bytes c.args.words.now.items in
    absurd (serves_alone c.words_ask_one_thing.ensures words serves.0 serves.1 (inl (c.in-Deploy.what, c.in-Deploy.ensures)))

pub returns-in-Resume-clause-serves : goal.returns-in-Resume-clause-serves
returns-in-Resume-clause-serves g c = λ turns is.
    let words : List (List ℕ) = map string_bytes c.args.words.now.items in
    let asks : AreWordsFor words asked.Resume = c.in-Resume.ensures in
    absurd (serves_alone c.words_ask_one_thing.ensures words turns is (inr asks))

pub returns-in-Resume-clause-causes : goal.returns-in-Resume-clause-causes
returns-in-Resume-clause-causes g c = λ serves.
    let words : List (List ℕ) = map string_bytes c.args.words.now.items in
    let asks : AreWordsFor words asked.Resume = c.in-Resume.ensures in
    absurd (serves_alone c.words_ask_one_thing.ensures words serves.0 serves.1 (inr asks))

pub returns-in-Other-clause-serves : goal.returns-in-Other-clause-serves
returns-in-Other-clause-serves g c = λ turns is.
    let asks : AreWordsFor (map string_bytes c.args.words.now.items) asked.Other = c.in-Other.ensures in
    absurd (asks (inr (turns, is)))

pub returns-in-Other-clause-causes : goal.returns-in-Other-clause-causes
returns-in-Other-clause-causes g c = λ serves.
    let asks : AreWordsFor (map string_bytes c.args.words.now.items) asked.Other = c.in-Other.ensures in
    absurd (asks (inr serves))

-- ---- another command

pub returns-in-Other-clause-parts : goal.returns-in-Other-clause-parts
returns-in-Other-clause-parts g c = λ other. c.look.ensures.parts

pub returns-in-Other-clause-unread : goal.returns-in-Other-clause-unread
returns-in-Other-clause-unread g c = λ other. c.look.ensures.unread

pub returns-in-Other-clause-unasked : goal.returns-in-Other-clause-unasked
returns-in-Other-clause-unasked g c = λ other. c.look.ensures.unasked

pub returns-in-Other-clause-moments : goal.returns-in-Other-clause-moments
returns-in-Other-clause-moments g c = λ other. c.look.ensures.moments

pub returns-in-Other-clause-durable : goal.returns-in-Other-clause-durable
returns-in-Other-clause-durable g c = c.look.ensures.durable

pub returns-in-Other-clause-others : goal.returns-in-Other-clause-others
returns-in-Other-clause-others g c = c.look.ensures.others

pub returns-in-Other-clause-deploys : goal.returns-in-Other-clause-deploys
returns-in-Other-clause-deploys g c = λ what is.
    let asks : AreWordsFor (map string_bytes c.args.words.now.items) asked.Other = c.in-Other.ensures in
    absurd (asks (inl (inl (what, is))))

pub returns-in-Other-clause-resumes : goal.returns-in-Other-clause-resumes
returns-in-Other-clause-resumes g c = λ root is.
    let asks : AreWordsFor (map string_bytes c.args.words.now.items) asked.Other = c.in-Other.ensures in
    absurd (asks (inl (inr (root, is))))

pub returns-in-Other-clause-driven : goal.returns-in-Other-clause-driven
returns-in-Other-clause-driven g c = λ drives.
    let asks : AreWordsFor (map string_bytes c.args.words.now.items) asked.Other = c.in-Other.ensures in
    absurd (asks (inl drives))

pub returns-in-Other-clause-disk_later : goal.returns-in-Other-clause-disk_later
returns-in-Other-clause-disk_later g c = stays (g.D.Disk.faults c.args.disk.now) (g.D.Disk.faults c.look.new.disk) c.look.ensures.disk_later

pub returns-in-Other-clause-sink_later : goal.returns-in-Other-clause-sink_later
returns-in-Other-clause-sink_later g c = stays (g.K.Sink.faults c.args.sink.now) (g.K.Sink.faults c.look.new.sink) c.look.ensures.sink_later

pub returns-in-Deploy-clause-disk_grows : goal.returns-in-Deploy-clause-disk_grows
returns-in-Deploy-clause-disk_grows g c = λ other.
    let words : List (List ℕ) = map string_bytes c.args.words.now.items in
    let asks : AsksTo words c.in-Deploy.what = c.in-Deploy.ensures in
    absurd (other (inl (inl (c.in-Deploy.what, asks))))

pub returns-in-Deploy-clause-sink_grows : goal.returns-in-Deploy-clause-sink_grows
returns-in-Deploy-clause-sink_grows g c = λ other.
    let words : List (List ℕ) = map string_bytes c.args.words.now.items in
    let asks : AsksTo words c.in-Deploy.what = c.in-Deploy.ensures in
    absurd (other (inl (inl (c.in-Deploy.what, asks))))

pub returns-in-Resume-clause-disk_grows : goal.returns-in-Resume-clause-disk_grows
returns-in-Resume-clause-disk_grows g c = λ other.
    let words : List (List ℕ) = map string_bytes c.args.words.now.items in
    let asks : AreWordsFor words asked.Resume = c.in-Resume.ensures in
    absurd (other (inl (inr asks)))

pub returns-in-Resume-clause-sink_grows : goal.returns-in-Resume-clause-sink_grows
returns-in-Resume-clause-sink_grows g c = λ other.
    let words : List (List ℕ) = map string_bytes c.args.words.now.items in
    let asks : AreWordsFor words asked.Resume = c.in-Resume.ensures in
    absurd (other (inl (inr asks)))

pub returns-in-NoMemory-clause-disk_later : goal.returns-in-NoMemory-clause-disk_later
returns-in-NoMemory-clause-disk_later g c = stays (g.D.Disk.faults c.args.disk.now) (g.D.Disk.faults c.args.disk.now) (omega arith)

pub returns-in-NoMemory-clause-sink_later : goal.returns-in-NoMemory-clause-sink_later
returns-in-NoMemory-clause-sink_later g c = stays (g.K.Sink.faults c.args.sink.now) (g.K.Sink.faults c.args.sink.now) (omega arith)

-- ---- when their refusals come

pub returns-in-NoMemory-clause-refused : goal.returns-in-NoMemory-clause-refused
returns-in-NoMemory-clause-refused g c = λ drives.
    let store : Store = store_of g.D.Disk.is_modelled g.D.Disk.seen g.D.Disk.faults c.args.disk.now c.args.disk.now in
    let input : Input = input_of g.S.Source.left g.S.Source.faults c.args.source.now c.args.source.now in
    let printed : Printed = printed_of g.K.Sink.held g.K.Sink.faults c.args.sink.now c.args.sink.now in
    refused_parts store input printed status.Memory (inl (starved store input printed (inl refl)
    (inl (refl, Appends-nil (g.K.Sink.held c.args.sink.now), refl))))

pub returns-in-NoMemory-clause-pending : goal.returns-in-NoMemory-clause-pending
returns-in-NoMemory-clause-pending g c = λ deploys.
    let store : Store = store_of g.D.Disk.is_modelled g.D.Disk.seen g.D.Disk.faults c.args.disk.now c.args.disk.now in
    let input : Input = input_of g.S.Source.left g.S.Source.faults c.args.source.now c.args.source.now in
    let printed : Printed = printed_of g.K.Sink.held g.K.Sink.faults c.args.sink.now c.args.sink.now in
    pending_parts store input printed status.Memory (inl (starved store input printed (inl refl)
    (inl (refl, Appends-nil (g.K.Sink.held c.args.sink.now), refl))))

pub returns-in-Deploy-clause-refused : goal.returns-in-Deploy-clause-refused
returns-in-Deploy-clause-refused g c = λ drives.
    let store : Store = store_of g.D.Disk.is_modelled g.D.Disk.seen g.D.Disk.faults c.args.disk.now c.deploy.new.disk in
    let input : Input = input_of g.S.Source.left g.S.Source.faults c.args.source.now c.deploy.new.source in
    let library : Shelf = shelf_of g.L.Library.content g.L.Library.faults c.args.library.now c.deploy.new.library in
    let printed : Printed = printed_of g.K.Sink.held g.K.Sink.faults c.args.sink.now c.deploy.new.sink in
    refused_parts store input printed c.deploy.result
    (⊎_elim (λ away. inl (away.0.answer, away.0.why, away.0.is_printed))
    (λ trace. inr (deployed_is_on g.D.Disk.may_leave g.D.Disk.moment g.D.Disk.left_since g.D.Disk.faults c.args.disk.now c.deploy.new.disk
    (g.R.Runner.list c.args.runner.now) (g.R.Runner.list c.deploy.new.runner) printed c.deploy.result store c.in-Deploy.what input library trace).0)
    c.deploy.ensures.ran)

pub returns-in-Deploy-clause-pending : goal.returns-in-Deploy-clause-pending
returns-in-Deploy-clause-pending g c = λ deploys.
    let store : Store = store_of g.D.Disk.is_modelled g.D.Disk.seen g.D.Disk.faults c.args.disk.now c.deploy.new.disk in
    let input : Input = input_of g.S.Source.left g.S.Source.faults c.args.source.now c.deploy.new.source in
    let library : Shelf = shelf_of g.L.Library.content g.L.Library.faults c.args.library.now c.deploy.new.library in
    let printed : Printed = printed_of g.K.Sink.held g.K.Sink.faults c.args.sink.now c.deploy.new.sink in
    pending_parts store input printed c.deploy.result
    (⊎_elim (λ away. inl (away.0.answer, away.0.why, away.0.is_printed))
    (λ trace. inr (deployed_is_on g.D.Disk.may_leave g.D.Disk.moment g.D.Disk.left_since g.D.Disk.faults c.args.disk.now c.deploy.new.disk
    (g.R.Runner.list c.args.runner.now) (g.R.Runner.list c.deploy.new.runner) printed c.deploy.result store c.in-Deploy.what input library trace))
    c.deploy.ensures.ran)

pub returns-in-Resume-clause-refused : goal.returns-in-Resume-clause-refused
returns-in-Resume-clause-refused g c = λ drives.
    let store : Store = store_of g.D.Disk.is_modelled g.D.Disk.seen g.D.Disk.faults c.args.disk.now c.resume.new.disk in
    let input : Input = input_of g.S.Source.left g.S.Source.faults c.args.source.now c.args.source.now in
    let printed : Printed = printed_of g.K.Sink.held g.K.Sink.faults c.args.sink.now c.resume.new.sink in
    refused_parts store input printed c.resume.result
    (⊎_elim (λ away. inl (away.0.answer, withholds_refused store input away.0.answer away.0.why, away.0.is_printed))
    (λ trace. inr (resumed_is_on g.D.Disk.may_leave g.D.Disk.moment g.D.Disk.left_since g.D.Disk.faults c.args.disk.now c.resume.new.disk
    (g.R.Runner.list c.args.runner.now) (g.R.Runner.list c.resume.new.runner) printed c.resume.result store trace)) c.resume.ensures.ran)

pub returns-in-Resume-clause-pending : goal.returns-in-Resume-clause-pending
returns-in-Resume-clause-pending g c = λ deploys.
    let words : List (List ℕ) = map string_bytes c.args.words.now.items in
    let asks : AreWordsFor words asked.Resume = c.in-Resume.ensures in
    absurd (not_both c.words_ask_one_thing.ensures words deploys.0 asks.0 deploys.1 asks.1)

pub returns-in-Other-clause-refused : goal.returns-in-Other-clause-refused
returns-in-Other-clause-refused g c = λ drives.
    let asks : AreWordsFor (map string_bytes c.args.words.now.items) asked.Other = c.in-Other.ensures in
    absurd (asks drives)

pub returns-in-Other-clause-pending : goal.returns-in-Other-clause-pending
returns-in-Other-clause-pending g c = λ deploys.
    let asks : AreWordsFor (map string_bytes c.args.words.now.items) asked.Other = c.in-Other.ensures in
    absurd (asks (inl (inl deploys)))

-- ---- what is read of the source

pub returns-in-NoMemory-clause-read : goal.returns-in-NoMemory-clause-read
returns-in-NoMemory-clause-read g c = reads_none 524289 (g.S.Source.left c.args.source.now)

pub returns-in-Resume-clause-read : goal.returns-in-Resume-clause-read
returns-in-Resume-clause-read g c = reads_none 524289 (g.S.Source.left c.args.source.now)

pub returns-in-Deploy-clause-read : goal.returns-in-Deploy-clause-read
returns-in-Deploy-clause-read g c = c.deploy.ensures.read

pub returns-in-Other-clause-read : goal.returns-in-Other-clause-read
returns-in-Other-clause-read g c = c.look.ensures.read

-- ---- `workload`

pub returns-in-NoMemory-clause-alone : goal.returns-in-NoMemory-clause-alone
returns-in-NoMemory-clause-alone g c = λ seed asks. refl

pub returns-in-Deploy-clause-alone : goal.returns-in-Deploy-clause-alone
returns-in-Deploy-clause-alone g c = λ seed quiet.
    let words : List (List ℕ) = map string_bytes c.args.words.now.items in
    absurd (no_quiet_deploy c.words_ask_one_thing.ensures words c.in-Deploy.what (orders.Workload seed) c.in-Deploy.ensures quiet)

pub returns-in-Resume-clause-alone : goal.returns-in-Resume-clause-alone
returns-in-Resume-clause-alone g c = λ seed quiet.
    let words : List (List ℕ) = map string_bytes c.args.words.now.items in
    let asks : AreWordsFor words asked.Resume = c.in-Resume.ensures in
    absurd (no_quiet c.words_ask_one_thing.ensures words asks.0 (orders.Workload seed) orders.Resume (λ built. built) asks.1 quiet)

pub returns-in-Other-clause-alone : goal.returns-in-Other-clause-alone
returns-in-Other-clause-alone g c = c.look.ensures.alone
