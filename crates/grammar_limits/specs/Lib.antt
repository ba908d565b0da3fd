pub mod LimitsLate
