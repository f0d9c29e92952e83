-- The worked examples of causes hold.
use Rattle.std.proofs.Common.{ℕ, inl, List, [], ◌∷◌, refl, lit≤, arith}
use Rattle.unit_id.specs.Lists.{is_in}
use Rattle.volume_entry.specs.Reply.{Reply}
use Rattle.volume_world.specs.Event.{Event}
use Rattle.volume_world.specs.Run.{World}
use Rattle.volume_world.specs.Move.{view_of}
use Rattle.volume_world.specs.Told.{MayBe}
use Rattle.volume_world.specs.Way.{shape_of}
use Rattle.volume_world.specs.Course.{IsDone}
use Rattle.volume_world.specs.declared.event.Event.TheVariants as events
use Rattle.volume_world.specs.declared.reply.Reply.TheVariants as replies
use Rattle.volume_world.specs.declared.trace.TraceEvent.TheVariants as kept_event
use Rattle.volume_world.specs.declared.trace.TraceReply.TheVariants as kept_reply
use Rattle.volume_world.specs.declared.trace.Trace.{Trace}
use Rattle.blob_access.specs.StandIn.{stand_origin, stand_first}
use Rattle.blob_access.specs.CauseExamples.{TwoOfNineMayBreak, NothingIsRead, all_broken, broken_view}

pub two_of_nine_may_break : TwoOfNineMayBreak
two_of_nine_may_break = record { two = lit≤ tt; three = λ h. omega (arith, h); spare = lit≤ tt }

-- the volume of six units with these disks broken
abbrev with_broken : List ℕ → World
with_broken disks = record (stand_origin.start) { state = record (stand_origin.start.state) { broken = λ disk. is_in disk disks } }

abbrev broke : ℕ → Trace
broke disk = record { event = kept_event.Break disk; reply = kept_reply.Done }

breaks : (disk : ℕ) (disks : List ℕ) → MayBe 1 (shape_of stand_origin) (with_broken disks) (broke disk) (with_broken (disk ∷ disks))
breaks disk disks = record {
  step = record { event = Event.Break disk; reply = Reply.Done };
  told = record { event = refl; reply = tt };
  leads = inl (((with_broken (disk ∷ disks)).state, refl, refl), refl);
}

looks : IsDone stand_origin all_broken events.Look (replies.Seen broken_view) all_broken
looks = record {
  step = record { event = Event.Look; reply = Reply.Seen (view_of all_broken.state) };
  told = record { event = refl; reply = refl };
  whole = tt;
  leads = inl ((all_broken.state, (refl, (refl, refl)), refl), refl);
}

pub nothing_is_read : NothingIsRead
nothing_is_read = record {
  possible = record {
    entries = broke 6 ∷ broke 5 ∷ broke 4 ∷ broke 3 ∷ broke 2 ∷ broke 1 ∷ [];
    first = stand_first;
    led = (
      with_broken (6 ∷ []),
      breaks 6 [],
      (
        with_broken (5 ∷ 6 ∷ []),
        breaks 5 (6 ∷ []),
        (
          with_broken (4 ∷ 5 ∷ 6 ∷ []),
          breaks 4 (5 ∷ 6 ∷ []),
          (
            with_broken (3 ∷ 4 ∷ 5 ∷ 6 ∷ []),
            breaks 3 (4 ∷ 5 ∷ 6 ∷ []),
            (with_broken (2 ∷ 3 ∷ 4 ∷ 5 ∷ 6 ∷ []), breaks 2 (3 ∷ 4 ∷ 5 ∷ 6 ∷ []), (with_broken (1 ∷ 2 ∷ 3 ∷ 4 ∷ 5 ∷ 6 ∷ []), breaks 1 (2 ∷ 3 ∷ 4 ∷ 5 ∷ 6 ∷ []), refl)),
          ),
        ),
      ),
    );
  };
  short = (refl, (refl, refl));
  leads = (all_broken, looks, (all_broken, looks, refl));
  cause = λ h. omega (arith, h);
}
