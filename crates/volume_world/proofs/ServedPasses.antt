-- What a world passes through when a request is served, and for which state it stands then.
use Rattle.std.proofs.Common.{◌≡◌, ◌∙◌, sym, ap, refl, subst, ℕ, ◌+◌, ◌-◌, ◌^◌, ◌≤◌, ◌&&◌, min, Bool, List, [], ◌∷◌, length, Option, Some, None, Result, Ok, Err, inr, arith}
use Rattle.std.specs.Prelude.{is_some}
use Rattle.unit_id.specs.Lists.{IsIn}
use Rattle.unit_id.specs.Messages.{request_of, answer_of}
use Rattle.unit_id.specs.Request.{Request, Given}
use Rattle.unit_id.specs.declared.request.Request as sent
use Rattle.unit_id.specs.declared.answer.Answer as answered
use Rattle.disk_base.specs.Disk.{FileView}
use Rattle.disk_base.specs.Shelves.{ShelfView}
use Rattle.code_mode.specs.declared.mode.Mode.{Mode}
use Rattle.blob_node.specs.Units.{Units}
use Rattle.blob_node.specs.HeldUnit.{disk_of}
use Rattle.volume_world.specs.Course.{fault_count, AreSettling}
use Rattle.volume_world.specs.Origins.{faults_of}
use Rattle.volume_world.specs.Run.{World}
use Rattle.volume_world.specs.Serving.{settles_of, once_handled, AnswersIn, Serves}
use Rattle.volume_world.specs.State.{Puts, Post, State}
use Rattle.volume_world.specs.Stepping.{IsShort, IsSound, NotDone}
use Rattle.volume_world.specs.World.{WorldOver, Stands, ArePosted}
use Rattle.volume_world.specs.declared.fault.StepFault.{StepFault}
use Rattle.volume_world.specs.declared.fault.StepFault.TheVariants.{Memory}
use Rattle.volume_world.specs.declared.late.LateItem.{LateItem}
use Rattle.volume_world.specs.declared.late.LateItem.TheVariants as items
use Rattle.volume_world.proofs.Passing.{SameVolume, all_late_fit, longer, still_short, end_in_time}
use Rattle.volume_world.proofs.StationsLasting.{lasting_are, lasting_told, lasting_quiet, lasting_still, lasting_faults}

-- ---- what is told of a start

pub settles_settle : (disk : ℕ) (told : Option Bool) → AreSettling (settles_of disk told)
settles_settle disk None = tt
settles_settle disk (Some kept) = (tt, tt)

pub settles_few : (disk : ℕ) (told : Option Bool) → length (settles_of disk told) ≤ 1
settles_few disk None = omega arith
settles_few disk (Some kept) = omega arith

-- it is no fault
pub settles_faultless : (disk : ℕ) (told : Option Bool) → fault_count (settles_of disk told) ≡ 0
settles_faultless disk None = refl
settles_faultless disk (Some kept) = refl

pub faults_stay : (before count now : ℕ) → count ≡ 0 → before ≤ now → min (before + count) (2 ^ 64 - 1) ≤ now
faults_stay before count now none more = omega arith

-- ---- what was posted

-- what was posted is so still where more was issued and given
more_posted : (mode : Mode) (puts : Puts) (post : Post) (issued : List Request) (one : Given) (late : List LateItem) → ((r : Request) → IsIn r post.issued → IsIn r issued)
    → ArePosted mode puts post late → ArePosted mode puts (record post { issued = issued; given = one ∷ post.given }) late
more_posted mode puts post issued one late more posted (items.Request request) there = let was = posted (items.Request request) there in (more (request_of request) was.0, was.1)
more_posted mode puts post issued one late more posted (items.Answer request answer) there = inr (posted (items.Answer request answer) there)

-- the state with these units, where these requests were issued
abbrev pub asked_in : World → Units → List Request → State
asked_in w units issued = record (w.state) { units = units; post = record (w.state.post) { issued = issued } }

module _ {H F : Type 0} (shelf_seen : H → ShelfView F) (seen : F → FileView) (request : sent.Request) where
  -- ---- the same volume

  module _ (result : Result answered.Answer StepFault) (old new : WorldOver H F) (serves : Serves shelf_seen seen request result old new) where
    -- where only stations and history change
    abbrev moved : WorldOver H F
    moved = record old { stations = new.stations; history = new.history }

    same_moved : SameVolume shelf_seen seen old moved
    same_moved = record {
      vid = refl;
      shape = refl;
      first = refl;
      told = ap (λ told. told && is_some (seen old.entry.book.log.file).content) (lasting_told shelf_seen seen old.stations new.stations serves.lasts);
      quiet = ap (λ quiet. quiet && (seen old.entry.book.log.file).is_quiet) (lasting_quiet shelf_seen seen old.stations new.stations serves.lasts);
      count = let more = lasting_faults shelf_seen seen old.stations new.stations serves.lasts in omega (arith, more);
    }

    -- it is the same volume
    pub served_same : SameVolume shelf_seen seen old new
    served_same = subst (λ (x : WorldOver H F). SameVolume shelf_seen seen old x) (sym serves.rest) same_moved

    -- whose history is no shorter
    pub served_longer : length new.history.entries ≡ length old.history.entries + length (settles_of (disk_of request) serves.told)
    served_longer = longer old.history.entries new.history.entries (settles_of (disk_of request) serves.told) serves.noted.entries

    -- what always holds of a world does still
    pub served_sound : IsSound shelf_seen seen old → IsSound shelf_seen seen new
    served_sound sound =
        subst (λ (x : WorldOver H F). IsSound shelf_seen seen x) (sym serves.rest) (record {
          one = record { vid = sound.one.vid; shape = sound.one.shape; planned = sound.one.planned };
          disks = sound.disks;
          stations = lasting_are shelf_seen seen old.vid old.stations new.stations serves.lasts serves.count sound.stations;
          count = serves.count ∙ sound.count;
          still = lasting_still shelf_seen seen old.stations new.stations serves.lasts sound.still;
          flags = sound.flags;
          broken = λ disk. serves.broken disk ∙ sound.broken disk;
          time = sound.time;
          end = end_in_time (length old.history.entries) (length new.history.entries) old.entry.book.log.end (omega (arith, served_longer)) sound.end;
          late = all_late_fit shelf_seen seen old moved same_moved refl sound;
        })

    -- the log is as short as before
    pub served_short : IsShort (length old.history.entries) (seen old.entry.book.log.file) → IsShort (length new.history.entries) (seen new.entry.book.log.file)
    served_short short =
        subst (λ (x : WorldOver H F). IsShort (length new.history.entries) (seen x.entry.book.log.file)) (sym serves.rest)
        (still_short (length old.history.entries) (length new.history.entries) (seen old.entry.book.log.file) (omega (arith, served_longer)) short)

  -- for want of memory only what is told of a start is done
  pub not_served : (old new : WorldOver H F) → IsSound shelf_seen seen old → Serves shelf_seen seen request (Err Memory) old new → NotDone shelf_seen seen 1 old new
  not_served old new sound serves =
      let same = served_same (Err Memory) old new serves in
      record {
        settles = settles_of (disk_of request) serves.told;
        settling = settles_settle (disk_of request) serves.told;
        few = settles_few (disk_of request) serves.told;
        passes = record {
          vid = same.vid;
          shape = same.shape;
          first = same.first;
          sound = served_sound (Err Memory) old new serves sound;
          entries = serves.noted.entries;
          spare = serves.noted.spare;
          told = same.told;
          quiet = same.quiet;
          count = same.count;
          faults = faults_stay (faults_of shelf_seen seen old) (fault_count (settles_of (disk_of request) serves.told)) (faults_of shelf_seen seen new)
              (settles_faultless (disk_of request) serves.told) same.count;
          leads = λ w is apart carries.
              let led = serves.serves w is.stands in
              (led.then_, led.leads, record { stands = led.serves; short = served_short (Err Memory) old new serves is.short });
        };
      }

  -- ---- the state behind an answer

  -- once the request was handled the world stands for the state behind it, in which it may have been issued last
  pub answered_stands : (answer : answered.Answer) (old new : WorldOver H F) (serves : Serves shelf_seen seen request (Ok answer) old new) (w : World) (stands : Stands shelf_seen seen old w)
      (issued : List Request) → ((r : Request) → IsIn r w.state.post.issued → IsIn r issued)
      → (answers : AnswersIn shelf_seen seen old.shape.mode request answer (asked_in w (serves.serves w stands).then_.state.units issued) new.stations)
      → Stands shelf_seen seen new (record w { state = once_handled request answer answers.effect (asked_in w (serves.serves w stands).then_.state.units issued) })
  answered_stands answer old new serves w stands issued more answers =
      let s = asked_in w (serves.serves w stands).then_.state.units issued in
      subst (λ (x : WorldOver H F). Stands shelf_seen seen x (record w { state = once_handled request answer answers.effect s })) (sym serves.rest) (record {
        manager = stands.manager;
        written = answers.written;
        stations = answers.stand;
        as_begun = answers.as_begun;
        puts = stands.puts;
        bytes = stands.bytes;
        posted = more_posted old.shape.mode w.state.puts w.state.post issued (record { request = request_of request; answer = answer_of answer }) old.late.items more stands.posted;
        time = stands.time;
        broken = stands.broken;
        planned = stands.planned;
        late = stands.late;
      })
