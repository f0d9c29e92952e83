use Rattle.std.proofs.Common.{◌≡◌, ◌∷◌, [], ◌++◌, ◌∙◌, Some, ap}
use Rattle.turn_lock.proofs.Tokens.{opens}
use Rattle.turn_lock.proofs.turn.Turn.make.Goals as goal

pub new-requires : goal.new-requires
new-requires g c =
    let items : c.push_reserved.new.self.items ≡ Some c.args.value ∷ [] = c.push_reserved.ensures.items ∙ ap (λ l. l ++ Some c.args.value ∷ []) (c.reserve.ensures.items ∙ c.new-slots.ensures.items) in
    rw (items, c.of-about.ensures) (opens _ _ c.args.value c.count-count.result c.count-count.ensures)
