-- How a chain is followed.
use Rattle.std.proofs.Common.{◌≡◌, ◌≢◌, ◌<◌, ◌≤◌, ◌+◌, ◌-◌, ℕ, true, false, nat_lt, length-append, List, [], ◌∷◌, ◌++◌, length, sym, ◌∙◌, ap, subst, arith, slice_index, Option, Some, Err}
use Rattle.gate_log.specs.LogFile.{holds, bad_chain, body_at, next_place, bodies_in, chain_of, end_place, Walks}
use Rattle.gate_log.specs.GateLog.{FindsAt, IsBroken, EndsAt, NextAnswers, gates_read, FollowsTo, EndAnswers}
use Rattle.disk_base.specs.Faults.{added, one_more}
use Rattle.disk_base.specs.Disk.{FileView}
use Rattle.disk_base.specs.Moments.{added_twice}
use Rattle.std.proofs.lemmas.Bool.Decides.{nat_tests}
use Rattle.gate_log.specs.declared.fault.LogFault.{LogFault}
use Rattle.gate_log.specs.declared.fault.LogFault.TheVariants.{Fault, BadHead, BadChain, Shut, BadLength, Full, Memory}
use Rattle.gate_log.proofs.Fetch.{if_some, at_some}
use Rattle.gate_log.proofs.Walk.{WalkTo, walk_says, walk_breaks, walk_end, walk_push, closed_past}

pub walk_on : (bytes : List ℕ) (place next : ℕ) → WalkTo bytes place → FindsAt bytes (length bytes) place (Some next) → WalkTo bytes next
walk_on bytes place next w found = record {
  bodies = w.bodies ++ body_at bytes place ∷ [];
  walks = subst (Walks bytes 8 (w.bodies ++ body_at bytes place ∷ [])) (sym found.1) (walk_push bytes 8 w.bodies place w.walks found.0);
}

pub ends : (bytes : List ℕ) (place : ℕ) → WalkTo bytes place → slice_index bytes place ≢ 1 → EndsAt bytes place
ends bytes place w shut =
    let says : chain_of bytes ≡ holds w.bodies = walk_says (length bytes) bytes 8 w.bodies place w.walks shut (omega arith) in
    let bodies : w.bodies ≡ bodies_in (chain_of bytes) = sym (ap bodies_in says) in
    record {
      chain = says ∙ ap holds bodies;
      end_is = walk_end bytes 8 w.bodies place w.walks ∙ ap end_place bodies;
      closed = shut;
    }

pub breaks : (bytes : List ℕ) (place : ℕ) → WalkTo bytes place → IsBroken bytes (length bytes) place → chain_of bytes ≡ bad_chain place
breaks bytes place w broken = walk_breaks (length bytes) bytes 8 w.bodies place w.walks broken.0 broken.1 (omega arith)

-- how many bodies the chain has gone over since the first ones, and what ends or stops it

pub record CountedTo (bytes : List ℕ) (first place before now : ℕ) : Type 0 where
  pub walk : WalkTo bytes place
  pub few : first ≤ length walk.bodies
  pub counted : now ≡ added before (length walk.bodies - first)

pub counted_start : (bytes : List ℕ) (read : List (List ℕ)) (place before : ℕ) → Walks bytes 8 read place → CountedTo bytes (length read) place before before
counted_start bytes read place before walks = record {
  walk = record { bodies = read; walks = walks };
  few = omega arith;
  counted = omega arith;
}

pub counted_on : (bytes : List ℕ) (first place next before now later : ℕ) → CountedTo bytes first place before now → FindsAt bytes (length bytes) place (Some next) → later ≡ one_more now → CountedTo bytes first next before later
unfolding walk_on
counted_on bytes first place next before now later w found one =
    let n = length w.walk.bodies in
    let l : length (w.walk.bodies ++ body_at bytes place ∷ []) ≡ n + 1 = length-append w.walk.bodies (body_at bytes place ∷ []) in
    let all : (n - first) + 1 ≡ length (w.walk.bodies ++ body_at bytes place ∷ []) - first = omega (arith, l, w.few) in
    record {
      walk = walk_on bytes place next w.walk found;
      few = omega (arith, l, w.few);
      counted = one ∙ ap one_more w.counted ∙ added_twice before (n - first) 1 ∙ ap (added before) all;
    }

-- a walk ends inside the file
walk_inside : (bytes : List ℕ) (place : ℕ) (bodies : List (List ℕ)) (end : ℕ) → Walks bytes place bodies end → place ≤ length bytes → end ≤ length bytes
walk_inside bytes place [] end walks le = omega (arith, walks, le)
walk_inside bytes place (body ∷ bodies) end walks le = walk_inside bytes (next_place bytes place) bodies end walks.2 walks.0.inside

pub come_inside : (bytes : List ℕ) (bodies : List (List ℕ)) (end : ℕ) → Walks bytes 8 bodies end → 8 ≤ length bytes → end ≤ length bytes
come_inside bytes bodies end walks le = walk_inside bytes 8 bodies end walks le

module _ (bytes : List ℕ) (read : List (List ℕ)) (place : ℕ) (old now new : FileView) (w : CountedTo bytes (length read) place old.calls now.calls) (long : 8 ≤ length bytes) where
  says : slice_index bytes place ≢ 1 → chain_of bytes ≡ holds w.walk.bodies
  says shut = walk_says (length bytes) bytes 8 w.walk.bodies place w.walk.walks shut (omega arith)

  same_count : slice_index bytes place ≢ 1 → length (bodies_in (chain_of bytes)) ≡ length w.walk.bodies
  same_count shut = ap (λ s. length (bodies_in s)) (says shut)

  pub counted_ends : slice_index bytes place ≢ 1 → place < length bytes → new.calls ≡ one_more now.calls → FollowsTo read bytes place old new
  counted_ends shut inside one =
      let n = same_count shut in
      let t : nat_lt place (length bytes) ≡ true = grind (arith, nat_tests) in
      let g : gates_read bytes place ≡ length (bodies_in (chain_of bytes)) + 1 = rw t in
      let all : (length w.walk.bodies - length read) + 1 ≡ gates_read bytes place - length read = omega (arith, n, g, w.few) in
      record {
        inside = come_inside bytes w.walk.bodies place w.walk.walks long;
        ends = ends bytes place w.walk shut;
        few = omega (arith, n, g, w.few);
        counted = one ∙ ap one_more w.counted ∙ added_twice old.calls (length w.walk.bodies - length read) 1 ∙ ap (added old.calls) all;
      }

  pub counted_past : length bytes ≤ place → new.calls ≡ now.calls → FollowsTo read bytes place old new
  counted_past past same =
      let shut = closed_past bytes place past in
      let n = same_count shut in
      let t : nat_lt place (length bytes) ≡ false = grind (arith, nat_tests) in
      let g : gates_read bytes place ≡ length (bodies_in (chain_of bytes)) + 0 = rw t in
      let all : length w.walk.bodies - length read ≡ gates_read bytes place - length read = omega (arith, n, g) in
      record {
        inside = come_inside bytes w.walk.bodies place w.walk.walks long;
        ends = ends bytes place w.walk shut;
        few = omega (arith, n, g, w.few);
        counted = same ∙ w.counted ∙ ap (added old.calls) all;
      }

pub next_refuses : (from len place : ℕ) (content : Option (List ℕ)) (old new : FileView) (cause : LogFault) → content ≡ old.content
    → ((file : List ℕ) → old.content ≡ Some file → len ≡ length file → (read : List (List ℕ)) → Walks file 8 read from → WalkTo file place)
    → NextAnswers content len place (Err cause) → EndAnswers from len old new (Err cause)
next_refuses from len place content old new Fault same walk a = tt
next_refuses from len place content old new (BadChain p) same walk a = if_some old.content _ (λ file told is read walks.
    let broken : IsBroken file len place = at_some content file (λ f. len ≤ length f → IsBroken f len place) (same ∙ told) a.1 (omega arith) in
    breaks file place (walk file told is read walks) (subst (λ n. IsBroken file n place) is broken) ∙ ap bad_chain (sym a.0))
next_refuses from len place content old new Shut same walk a = absurd a
next_refuses from len place content old new BadHead same walk a = absurd a
next_refuses from len place content old new (BadLength n) same walk a = absurd a
next_refuses from len place content old new (Full n) same walk a = absurd a
next_refuses from len place content old new Memory same walk a = absurd a
