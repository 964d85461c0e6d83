pub mod ClusterRunning
pub mod ClusterServing
pub mod Serving
pub mod SiteServing
pub mod SiteStanding
