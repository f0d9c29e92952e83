use Rattle.code_mode.proofs.AnyShards.{cut_holds_enough, any_filled, all_held, any_rebuilt, own_data_held, own_data_joined}
use Rattle.code_mode.proofs.stripe.any_shards_give_the_blob.Goals as goal

pub returns : goal.returns
returns c = record {
  cut = cut_holds_enough;
  filled = any_filled;
  each = all_held;
  rebuilt = any_rebuilt;
  held = own_data_held;
  joined = own_data_joined;
}
