use Rattle.std.proofs.Common.{◌≡◌, ◌∙◌, ap, List, ℕ, [], ◌∷◌, ◌++◌, length, append_assoc}
use Rattle.std.proofs.lemmas.Result.{on_ok_weaker}
use Rattle.std.specs.List.{flat_map}
use Rattle.std.specs.Int.{w64, to_be_bytes}
use Rattle.volume_entry.specs.Spelling.{grant_bytes}
use Rattle.volume_entry.proofs.writing.add_locked.Goals as goal

joined : (start one two last : List ℕ) (count : ℕ) → (((start ++ one) ++ two) ++ count ∷ []) ++ last ≡ start ++ (one ++ (two ++ (count ∷ last)))
joined start one two last count = simp append_assoc

added : (start one two last : List ℕ) (count : ℕ) (after_one after_two after_count new : List ℕ) → after_one ≡ start ++ one → after_two ≡ after_one ++ two → after_count ≡ after_two ++ count ∷ [] → new ≡ after_count ++ last → new ≡ start ++ (one ++ (two ++ (count ∷ last)))
added start one two last count a b d new e f g h =
    h ∙ ap (λ t. t ++ last) (g ∙ ap (λ t. t ++ count ∷ []) (f ∙ ap (λ t. t ++ two) e)) ∙ joined start one two last count

pub returns-clause-added : goal.returns-clause-added
returns-clause-added c =
    on_ok_weaker c.add_grants.result
    (λ e. added c.args.out.now.items (to_be_bytes w64 c.args.task) (to_be_bytes w64 c.args.lock) (flat_map grant_bytes c.args.grants.now) (length c.args.grants.now)
    _ _ _ c.add_grants.new.out.items c.in_ok-add_long.ensures c.in_ok-add_long-2.ensures c.in_ok-push.ensures.items e)
    c.add_grants.ensures.added
