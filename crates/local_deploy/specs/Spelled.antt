-- The keys of a request as they are spelled.
use Rattle.std.specs.Prelude.{ℕ, List, codes}
use Rattle.local_deploy.specs.declared.fault.Key.{Key}
use Rattle.local_deploy.specs.declared.fault.Key.TheVariants as key

abbrev pub spelled : Key → List ℕ
spelled key.Request = codes "request"
spelled key.DeploymentId = codes "deploymentId"
spelled key.FailureHandlingPolicy = codes "failureHandlingPolicy"
spelled key.Merge = codes "merge"
spelled key.Remove = codes "remove"
spelled key.UpdateConfig = codes "updateConfig"
