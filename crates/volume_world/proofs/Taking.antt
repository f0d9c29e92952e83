-- What an event does behind settles that stand before it.
use Rattle.std.proofs.Common.{◌≡◌, refl, sym, ap, subst, ℕ, ◌+◌, ◌≤◌, List, [], ◌∷◌, ◌++◌, length, append_assoc, length-append, arith, Result, Ok, Err}
use Rattle.disk_base.specs.Disk.{FileView}
use Rattle.disk_base.specs.Shelves.{ShelfView}
use Rattle.code_mode.specs.VolumeShape.{last_time}
use Rattle.volume_world.specs.Course.{Part, AreSettling}
use Rattle.volume_world.specs.Replying.{MayReply, ShowsMoves}
use Rattle.volume_world.specs.World.{WorldOver}
use Rattle.volume_world.specs.Origins.{origin_of}
use Rattle.volume_world.specs.Stepping.{IsSound, IsAt, IsShort, Passes, Done, NotDone, Takes}
use Rattle.volume_world.specs.declared.event.Event.{Event}
use Rattle.volume_world.specs.declared.trace.Trace.{Trace}
use Rattle.volume_world.specs.declared.reply.Reply.{Reply}
use Rattle.volume_world.specs.declared.fault.StepFault.{StepFault}
use Rattle.volume_world.specs.declared.fault.StepFault.TheVariants.{HistoryFull, Memory}
use Rattle.volume_world.proofs.Passing.{origin_same, same_by, same_beside, sound_beside, passes_nothing, passes_settled}
use Rattle.volume_world.proofs.WorldFrames.{noted}

settling_both : (ps qs : List Part) → AreSettling ps → AreSettling qs → AreSettling (ps ++ qs)
settling_both [] qs h k = k
settling_both (Part.Settling trace ∷ ps) qs h k = (h.0, settling_both ps qs h.1 k)
settling_both (Part.Beside trace ∷ ps) qs h k = absurd h
settling_both (Part.Asking event reply ∷ ps) qs h k = absurd h

module _ {H F : Type 0} (shelf_seen : H → ShelfView F) (seen : F → FileView) where
  -- settles, and then what an event does
  module _ (most few : ℕ) (settles : List Part) (old mid new : WorldOver H F) (event : Event) (are : AreSettling settles) (sum : length settles + few ≤ most)
      (before : Passes shelf_seen seen settles old mid) where
    same : origin_of shelf_seen seen mid ≡ origin_of shelf_seen seen old
    same = origin_same shelf_seen seen old mid (same_by shelf_seen seen settles old mid before)

    pub takes_behind : (result : Result Reply StepFault) → Takes shelf_seen seen few mid new event result → Takes shelf_seen seen most old new event result
    takes_behind (Ok reply) done = record {
      settles = settles ++ done.settles;
      settling = settling_both settles done.settles are done.settling;
      few = let both = length-append settles done.settles in omega (arith, both, sum, done.few);
      fits = subst (λ origin. MayReply origin event reply) same done.fits;
      moves = subst (λ origin. ShowsMoves origin reply) same done.moves;
      passes = subst (λ parts. Passes shelf_seen seen parts old new) (sym (append_assoc settles done.settles (Part.Asking event reply ∷ [])))
          (passes_settled shelf_seen seen settles (done.settles ++ Part.Asking event reply ∷ []) old mid new are before done.passes);
    }
    takes_behind (Err Memory) not = record {
      settles = settles ++ not.settles;
      settling = settling_both settles not.settles are not.settling;
      few = let both = length-append settles not.settles in omega (arith, both, sum, not.few);
      passes = passes_settled shelf_seen seen settles not.settles old mid new are before not.passes;
    }
    takes_behind (Err HistoryFull) none = none

  -- room is made in the history
  pub passes_room : (old new : WorldOver H F) → IsSound shelf_seen seen old → new ≡ record old { history = new.history } → new.history.entries ≡ old.history.entries
      → old.history.spare ≤ new.history.spare → Passes shelf_seen seen [] old new
  passes_room old new sound only entries spare =
      passes_nothing shelf_seen seen old new (same_beside shelf_seen seen old new beside)
      (sound_beside shelf_seen seen old new beside (ap (λ (x : WorldOver H F). length x.planned) only) (subst (λ (x : WorldOver H F). x.time ≤ last_time) (sym only) sound.time)
      (omega (arith, ap length entries)) sound)
      entries spare
      (λ w is. record {
        stands = noted shelf_seen seen old new w only is.stands;
        short = subst (λ (file : F). IsShort (length new.history.entries) (seen file)) (sym (ap (λ (x : WorldOver H F). x.entry.book.log.file) only))
            (subst (λ (list : List Trace). IsShort (length list) (seen old.entry.book.log.file)) (sym entries) is.short);
      })
    where
      beside : new ≡ record old { puts = new.puts; planned = new.planned; time = new.time; history = new.history }
      beside = subst (λ (x : WorldOver H F). x ≡ record old { puts = x.puts; planned = x.planned; time = x.time; history = x.history }) (sym only) refl
