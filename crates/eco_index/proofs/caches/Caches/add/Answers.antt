use Rattle.eco_index.proofs.Caching.{added, still_exact}
use Rattle.eco_index.proofs.caches.Caches.add.Goals as goal

pub returns-in_err-reserve-clause-exact : goal.returns-in_err-reserve-clause-exact
returns-in_err-reserve-clause-exact c types was those kept = still_exact _ _ c.in_err-reserve.ensures.items types was

pub returns-clause-exact : goal.returns-clause-exact
returns-clause-exact c types was those kept =
    added types _ _ _ _ c.in_ok-reserve.ensures.items c.push_reserved.ensures.items was (record { those = those; kept = kept })
