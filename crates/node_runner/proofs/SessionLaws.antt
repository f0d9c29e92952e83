-- A get prints no other bytes, and a put enters no name that is taken.
use Rattle.std.proofs.Common.{◌≡◌, ℕ, zero, suc, Bool, true, false, List, [], ◌∷◌, ◌++◌, take, Option, Some, None, refl, sym, ◌∙◌, ap, subst, cond}
use Rattle.std.specs.Prelude.{slice_get, is_some, is_none, nat_lt, ◌==◌, if◌then◌else◌}
use Rattle.std.specs.Str.{bytes_eq}
use Rattle.std.specs.Map.{lookup}
use Rattle.std.proofs.lemmas.Slice.Eq.{bytes_eq-Decides}
use Rattle.node_runner.specs.declared.command.Command.{Command}
use Rattle.node_runner.specs.declared.command.Command.TheVariants as commands
use Rattle.node_runner.specs.declared.reply.Refusal.{Refusal}
use Rattle.node_runner.specs.declared.reply.Refusal.TheVariants as causes
use Rattle.node_runner.specs.declared.reply.LineReply.{LineReply}
use Rattle.node_runner.specs.declared.reply.LineReply.TheVariants as replies
use Rattle.node_runner.specs.declared.session.Spot.{Spot}
use Rattle.node_runner.specs.declared.session.Lost.{Lost}
use Rattle.node_runner.specs.Session.{Object, State, Turn, fresh, size_of, named, next_bid, first_volume, first_that_holds, largest_object, disks_refusal, volume_refusal, put_refusal, get_refusal, bytes_in, object_of, with_object, Unless, Answers, Does, AreTurns, entered_by, entered_from, ShowsWhatWasPut, EntersNewNames}

-- the bytes of an object, where there is one
abbrev carried_by : Option Object → Option (List ℕ)
carried_by (Some object) = Some object.bytes
carried_by None = None

-- what the state has under a name
abbrev shown : State → List ℕ → Option (List ℕ)
shown state name = carried_by (named state name)

-- behind an object that came last under a new name
lookup-snoc : (name : List ℕ) (objects : List (List ℕ × Object)) (key : List ℕ) (object : Object) → lookup (bytes_eq key) objects ≡ None
    → carried_by (lookup (bytes_eq name) (objects ++ (key, object) ∷ [])) ≡ (if bytes_eq name key then Some object.bytes else carried_by (lookup (bytes_eq name) objects))
lookup-snoc name objects key object free = go (bytes_eq name key) refl where
  other : (objects : List (List ℕ × Object)) → bytes_eq name key ≡ false
      → lookup (bytes_eq name) (objects ++ (key, object) ∷ []) ≡ lookup (bytes_eq name) objects
  other [] e = ap (λ test. cond test (Some object) None) e
  other (first ∷ objects) e = ap (λ found. cond (bytes_eq name first.0) (Some first.1) found) (other objects e)

  here : (objects : List (List ℕ × Object)) → lookup (bytes_eq name) objects ≡ None → bytes_eq name key ≡ true
      → lookup (bytes_eq name) (objects ++ (key, object) ∷ []) ≡ Some object
  here [] none e = ap (λ test. cond test (Some object) None) e
  here (first ∷ objects) none e = step (bytes_eq name first.0) (here objects) none where
    step : (test : Bool) → (lookup (bytes_eq name) objects ≡ None → bytes_eq name key ≡ true → lookup (bytes_eq name) (objects ++ (key, object) ∷ []) ≡ Some object)
        → cond test (Some first.1) (lookup (bytes_eq name) objects) ≡ None
        → cond test (Some first.1) (lookup (bytes_eq name) (objects ++ (key, object) ∷ [])) ≡ Some object
    step true rest h = cc
    step false rest h = rest h e

  go : (test : Bool) → bytes_eq name key ≡ test
      → carried_by (lookup (bytes_eq name) (objects ++ (key, object) ∷ [])) ≡ (if test then Some object.bytes else carried_by (lookup (bytes_eq name) objects))
  go true e = ap carried_by (here objects (ap (λ n. lookup (bytes_eq n) objects) ((bytes_eq-Decides name key).0 e) ∙ free) e)
  go false e = ap carried_by (other objects e)

-- a put that isn't refused has a new name
new_name : (empty large taken none : Bool)
    → first_that_holds ((empty, causes.Empty) ∷ (large, causes.TooLarge) ∷ (taken, causes.NameTaken) ∷ (none, causes.NoVolume) ∷ []) ≡ None → taken ≡ false
new_name true large taken none h = cc
new_name false true taken none h = cc
new_name false false true none h = cc
new_name false false false none h = refl

none_there : (found : Option Object) → is_some found ≡ false → found ≡ None
none_there (Some object) h = cc
none_there None h = refl

free_name : (state : State) (name : List ℕ) (size : ℕ) → put_refusal state name size ≡ None → named state name ≡ None
free_name state name size h =
    none_there (named state name) (new_name (size == 0) (nat_lt largest_object size) (is_some (named state name)) (is_none state.volume) h)

-- what the state behind a command has under a name
shown_after : (old : State) (command : Command) (reply : LineReply) (new : State) (name : List ℕ) → Answers old command reply new
    → shown new name ≡ entered_by name command reply (shown old name)
shown_after old (commands.Disks count) reply new name h = go (disks_refusal old count) h where
  go : (refusal : Option Refusal) → Unless refusal (commands.Disks count) old reply new ((reply ≡ replies.Disks count) × (new ≡ record old { disks = Some count }))
      → shown new name ≡ shown old name
  go (Some cause) h = ap (λ s. shown s name) h.1
  go None h = ap (λ s. shown s name) h.1
shown_after old (commands.Volume mode) reply new name h = go (volume_refusal old mode) h where
  go : (refusal : Option Refusal) → Unless refusal (commands.Volume mode) old reply new ((reply ≡ replies.Volume first_volume mode) × (new ≡ record old { volume = Some mode }))
      → shown new name ≡ shown old name
  go (Some cause) h = ap (λ s. shown s name) h.1
  go None h = ap (λ s. shown s name) h.1
shown_after old (commands.Put put body) reply new name h = go (put_refusal old put (size_of body)) refl h where
  go : (refusal : Option Refusal) → put_refusal old put (size_of body) ≡ refusal
      → Unless refusal (commands.Put put body) old reply new ((reply ≡ replies.Put put first_volume (next_bid old) (size_of body)) × (new ≡ with_object old put (object_of old body)))
      → shown new name ≡ entered_by name (commands.Put put body) reply (shown old name)
  go (Some cause) e h = ap (λ s. shown s name) h.1 ∙ sym (ap (λ r. entered_by name (commands.Put put body) r (shown old name)) h.0)
  go None e h =
      ap (λ s. shown s name) h.1 ∙ lookup-snoc name old.objects put (object_of old body) (free_name old put (size_of body) e)
      ∙ sym (ap (λ r. entered_by name (commands.Put put body) r (shown old name)) h.0)
shown_after old (commands.Get get) reply new name h = go (get_refusal (named old get)) h where
  go : (refusal : Option Refusal) → Unless refusal (commands.Get get) old reply new ((reply ≡ replies.Got get (bytes_in (named old get))) × (new ≡ old))
      → shown new name ≡ shown old name
  go (Some cause) h = ap (λ s. shown s name) h.1
  go None h = ap (λ s. shown s name) h.1

-- a turn is the answer to its command
answers_of : (old : State) (command : Command) (own : List Spot) (lost : Option Lost) (reply : LineReply) (new : State) → Does old command own lost reply new → Answers old command reply new
answers_of old command [] None reply new h = h
answers_of old command [] (Some loss) reply new h = absurd h
answers_of old command (step ∷ own) lost reply new h = absurd h

-- A turn at a place, and what a name stands for in the state before it.
record Stands (session : List Turn) (place : ℕ) (turn : Turn) (name : List ℕ) (before : Option (List ℕ)) : Type 0 where
  state : State
  behind : State
  answers : Answers state turn.command turn.reply behind
  shows : shown state name ≡ entered_from name before (take place session)

stands : (old : State) (session : List Turn) (new : State) (place : ℕ) (turn : Turn) (name : List ℕ) → AreTurns old session new → slice_get session place ≡ Some turn
    → Stands session place turn name (shown old name)
stands old [] new place turn name h at = cc
stands old (first ∷ session) new zero turn name h at =
    let same : first ≡ turn = cc in
    record { state = old; behind = h.0; answers = rw (sym same) (answers_of old first.command first.own first.lost first.reply h.0 h.1); shows = refl }
stands old (first ∷ session) new (suc place) turn name h at =
    let there = stands h.0 session new place turn name h.2 at in
    let after = shown_after old first.command first.reply h.0 name (answers_of old first.command first.own first.lost first.reply h.0 h.1) in
    record { state = there.state; behind = there.behind; answers = there.answers; shows = there.shows ∙ ap (λ before. entered_from name before (take place session)) after }

got_is : (old : State) (command : Command) (new : State) (name bytes : List ℕ) → Answers old command (replies.Got name bytes) new → shown old name ≡ Some bytes
got_is old (commands.Disks count) new name bytes h = go (disks_refusal old count) h where
  go : (refusal : Option Refusal) → Unless refusal (commands.Disks count) old (replies.Got name bytes) new ((replies.Got name bytes ≡ replies.Disks count) × (new ≡ record old { disks = Some count }))
      → shown old name ≡ Some bytes
  go (Some cause) h = let e = h.0 in cc
  go None h = let e = h.0 in cc
got_is old (commands.Volume mode) new name bytes h = go (volume_refusal old mode) h where
  go : (refusal : Option Refusal) → Unless refusal (commands.Volume mode) old (replies.Got name bytes) new ((replies.Got name bytes ≡ replies.Volume first_volume mode) × (new ≡ record old { volume = Some mode }))
      → shown old name ≡ Some bytes
  go (Some cause) h = let e = h.0 in cc
  go None h = let e = h.0 in cc
got_is old (commands.Put put body) new name bytes h = go (put_refusal old put (size_of body)) h where
  go : (refusal : Option Refusal)
      → Unless refusal (commands.Put put body) old (replies.Got name bytes) new ((replies.Got name bytes ≡ replies.Put put first_volume (next_bid old) (size_of body)) × (new ≡ with_object old put (object_of old body)))
      → shown old name ≡ Some bytes
  go (Some cause) h = let e = h.0 in cc
  go None h = let e = h.0 in cc
got_is old (commands.Get get) new name bytes h = go (named old get) refl h where
  go : (found : Option Object) → named old get ≡ found
      → Unless (get_refusal found) (commands.Get get) old (replies.Got name bytes) new ((replies.Got name bytes ≡ replies.Got get (bytes_in found)) × (new ≡ old))
      → shown old name ≡ Some bytes
  go (Some object) e h =
      let asked : name ≡ get = let r = h.0 in cc in
      let carried : bytes ≡ object.bytes = let r = h.0 in cc in
      ap (shown old) asked ∙ ap carried_by e ∙ ap Some (sym carried)
  go None e h = let r = h.0 in cc

pub shows_what_was_put : ShowsWhatWasPut
shows_what_was_put session state place turn name bytes h at got =
    let s = stands fresh session state place turn name h at in
    let found = got_is s.state turn.command s.behind name bytes (subst (λ (r : LineReply). Answers s.state turn.command r s.behind) got s.answers) in
    sym s.shows ∙ found

put_is_new : (old : State) (command : Command) (new : State) (name : List ℕ) (vid bid size : ℕ) → Answers old command (replies.Put name vid bid size) new → shown old name ≡ None
put_is_new old (commands.Disks count) new name vid bid size h = go (disks_refusal old count) h where
  go : (refusal : Option Refusal) → Unless refusal (commands.Disks count) old (replies.Put name vid bid size) new ((replies.Put name vid bid size ≡ replies.Disks count) × (new ≡ record old { disks = Some count }))
      → shown old name ≡ None
  go (Some cause) h = let e = h.0 in cc
  go None h = let e = h.0 in cc
put_is_new old (commands.Volume mode) new name vid bid size h = go (volume_refusal old mode) h where
  go : (refusal : Option Refusal) → Unless refusal (commands.Volume mode) old (replies.Put name vid bid size) new ((replies.Put name vid bid size ≡ replies.Volume first_volume mode) × (new ≡ record old { volume = Some mode }))
      → shown old name ≡ None
  go (Some cause) h = let e = h.0 in cc
  go None h = let e = h.0 in cc
put_is_new old (commands.Put put body) new name vid bid size h = go (put_refusal old put (size_of body)) refl h where
  go : (refusal : Option Refusal) → put_refusal old put (size_of body) ≡ refusal
      → Unless refusal (commands.Put put body) old (replies.Put name vid bid size) new ((replies.Put name vid bid size ≡ replies.Put put first_volume (next_bid old) (size_of body)) × (new ≡ with_object old put (object_of old body)))
      → shown old name ≡ None
  go (Some cause) e h = let r = h.0 in cc
  go None e h =
      let same : name ≡ put = let r = h.0 in cc in
      ap (shown old) same ∙ ap carried_by (free_name old put (size_of body) e)
put_is_new old (commands.Get get) new name vid bid size h = go (get_refusal (named old get)) h where
  go : (refusal : Option Refusal) → Unless refusal (commands.Get get) old (replies.Put name vid bid size) new ((replies.Put name vid bid size ≡ replies.Got get (bytes_in (named old get))) × (new ≡ old))
      → shown old name ≡ None
  go (Some cause) h = let e = h.0 in cc
  go None h = let e = h.0 in cc

pub enters_new_names : EntersNewNames
enters_new_names session state place turn name vid bid size h at put =
    let s = stands fresh session state place turn name h at in
    let found = put_is_new s.state turn.command s.behind name vid bid size (subst (λ (r : LineReply). Answers s.state turn.command r s.behind) put s.answers) in
    sym s.shows ∙ found
