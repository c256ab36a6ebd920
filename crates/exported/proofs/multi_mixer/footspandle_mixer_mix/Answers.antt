-- `exported::multi_mixer::footspandle_mixer_mix` meets its contract: the mix, and the number of its answer. Assumes
-- nothing.
use Rattle.exported.proofs.multi_mixer.footspandle_mixer_mix.Goals as goal

pub returns : goal.returns
returns c =
    record {
      answer = c.mix.result;
      number_is = c.number.ensures;
      mixed = rw c.from.ensures at c.mix.ensures;
    }
